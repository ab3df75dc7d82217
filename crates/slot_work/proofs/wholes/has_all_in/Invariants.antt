use Rattle.std.proofs.Common.{◌≡◌, drop}
use Rattle.std.specs.List.{list_all}
use Rattle.std.specs.FinSet as set
use Rattle.geom_core.specs.Grid.{keys_of}
use Rattle.slot_work.specs.Lacking.{is_seen}
use Rattle.slot_work.proofs.wholes.has_all_in.Given as goal

-- the tiles so far are published or among the keys
abbrev pub invariant-loop-i : goal.invariant-loop-i
invariant-loop-i l = list_all (is_seen l.painter.published (set.from_list l.keys.keys)) (drop l.i (keys_of l.rect)) ≡ list_all (is_seen l.painter.published (set.from_list l.keys.keys)) (keys_of l.rect)
