use Rattle.std.proofs.Common.{◌≡◌, drop}
use Rattle.std.specs.List.{list_all}
use Rattle.std.specs.FinSet as set
use Rattle.geom_core.specs.Grid.{all_keys_of}
use Rattle.slot_work.specs.Lacking.{is_seen}
use Rattle.slot_work.proofs.wholes.has_all.Given as goal

-- the tiles of the rectangles so far are published or among the keys
abbrev pub invariant-loop-rect : goal.invariant-loop-rect
invariant-loop-rect l = list_all (is_seen l.painter.published (set.from_list l.keys.keys)) (all_keys_of (drop l.rect-index l.rect-items)) ≡ list_all (is_seen l.painter.published (set.from_list l.keys.keys)) (all_keys_of l.rect-items)
