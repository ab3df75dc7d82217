use Rattle.std.proofs.Common.{◌≡◌, drop, ℕ}
use Rattle.std.specs.List.{list_any, list_all}
use Rattle.machine_model.specs.Guards.{same_pair}
use Rattle.walker_core.specs.Readings.{path_in}
use Rattle.slot_work.proofs.remaining.next_group.Given as goal

-- the tile is published of the groups so far
abbrev pub invariant-loop-group : goal.invariant-loop-group
invariant-loop-group l = list_all (λ (g : ℕ). list_any (same_pair g l.key) l.walker.published) (drop l.group-index (path_in l.walker.inputs)) ≡ list_all (λ (g : ℕ). list_any (same_pair g l.key) l.walker.published) (path_in l.walker.inputs)
