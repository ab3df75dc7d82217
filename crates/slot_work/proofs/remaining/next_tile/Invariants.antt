use Rattle.std.proofs.Common.{◌≡◌, drop}
use Rattle.std.specs.List.{list_any, list_all}
use Rattle.geom_core.specs.Grid.{Key, same_key, all_keys_of}
use Rattle.slot_work.proofs.remaining.next_tile.Given as goal

-- the tiles of the rectangles so far are published
abbrev pub invariant-loop-rect : goal.invariant-loop-rect
invariant-loop-rect l = list_all (λ (k : Key). list_any (same_key k) l.painter.published) (all_keys_of (drop l.rect-index l.rect-items)) ≡ list_all (λ (k : Key). list_any (same_key k) l.painter.published) (all_keys_of l.rect-items)
