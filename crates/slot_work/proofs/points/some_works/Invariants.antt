use Rattle.std.proofs.Common.{◌≡◌, map, drop}
use Rattle.std.specs.List.{list_any}
use Rattle.geom_core.specs.Areas.{point}
use Rattle.desk_state.specs.Choices.{works_on}
use Rattle.desk_state.specs.Parts.{slot_of}
use Rattle.slot_work.proofs.points.some_works.Given as goal

abbrev pub invariant-loop-place : goal.invariant-loop-place
invariant-loop-place l = list_any (works_on (point l.x l.y)) (drop l.place (map slot_of l.slots)) ≡ list_any (works_on (point l.x l.y)) (map slot_of l.slots)
