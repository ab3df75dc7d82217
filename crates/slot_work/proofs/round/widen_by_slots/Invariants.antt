use Rattle.std.proofs.Common.{map, take}
use Rattle.std.specs.List.{list_any}
use Rattle.desk_state.specs.Choices.{works_on}
use Rattle.desk_state.specs.Parts.{slot_of}
use Rattle.slot_work.specs.Round.{Widens}
use Rattle.slot_work.proofs.round.widen_by_slots.Given as goal

-- the work in the slots so far was taken in
abbrev pub invariant-loop-place : goal.invariant-loop-place
invariant-loop-place l = Widens l.bounds (λ p. list_any (works_on p) (take l.place (map slot_of l.slots))) l.fn.so_far l.round
