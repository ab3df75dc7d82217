use Rattle.std.proofs.Common.{◌≡◌, drop}
use Rattle.std.specs.List.{list_any}
use Rattle.geom_core.specs.Grid.{same_key, keys_of}
use Rattle.slot_work.proofs.walking.is_tile_of.Given as goal

-- none of the tiles so far is that one
abbrev pub invariant-loop-i : goal.invariant-loop-i
invariant-loop-i l = list_any (same_key l.key) (drop l.i (keys_of l.rect)) ≡ list_any (same_key l.key) (keys_of l.rect)
