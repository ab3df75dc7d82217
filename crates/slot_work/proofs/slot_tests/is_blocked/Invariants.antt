use Rattle.std.proofs.Common.{◌≡◌, map, drop}
use Rattle.std.specs.List.{list_any}
use Rattle.machine_model.specs.Guards.{blocks}
use Rattle.desk_state.specs.Parts.{slot_of}
use Rattle.slot_work.proofs.slot_tests.is_blocked.Given as goal

abbrev pub invariant-loop-place : goal.invariant-loop-place
invariant-loop-place l = list_any (blocks l.jobs l.kind) (drop l.place (map slot_of l.slots)) ≡ list_any (blocks l.jobs l.kind) (map slot_of l.slots)
