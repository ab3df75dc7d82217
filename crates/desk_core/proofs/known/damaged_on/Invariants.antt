use Rattle.std.proofs.Common.{◌≡◌, cond, None, take}
use Rattle.std.specs.List.{list_any}
use Rattle.geom_core.specs.Grid.{Key, keys_of, same_key}
use Rattle.frame_core.specs.Damage.{part_at}
use Rattle.walker_core.specs.Knowing.{stale_in}
use Rattle.desk_core.proofs.known.damaged_on.Given as goal

-- the parts of the tiles so far
abbrev pub invariant-loop-i : goal.invariant-loop-i
invariant-loop-i l = (k : Key) → stale_in l.parts.items k ≡ cond (list_any (same_key k) (take l.i (keys_of l.rect))) (part_at l.damage k) None
