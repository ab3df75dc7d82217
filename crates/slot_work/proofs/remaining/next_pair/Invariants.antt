use Rattle.std.proofs.Common.{◌≡◌, drop, ℕ}
use Rattle.std.specs.List.{list_any, list_all}
use Rattle.geom_core.specs.Grid.{Key, keys_of}
use Rattle.machine_model.specs.Guards.{same_pair}
use Rattle.walker_core.specs.Readings.{path_in}
use Rattle.slot_work.proofs.remaining.next_pair.Given as goal

-- the tiles so far are published of all groups
abbrev pub invariant-loop-i : goal.invariant-loop-i
invariant-loop-i l = list_all (λ (key : Key). list_all (λ (g : ℕ). list_any (same_pair g key) l.walker.published) (path_in l.walker.inputs)) (drop l.i (keys_of l.walker.inputs.patch.rect)) ≡ list_all (λ (key : Key). list_all (λ (g : ℕ). list_any (same_pair g key) l.walker.published) (path_in l.walker.inputs)) (keys_of l.walker.inputs.patch.rect)
