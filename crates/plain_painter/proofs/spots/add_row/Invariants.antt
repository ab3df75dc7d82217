use Rattle.std.proofs.Common.{◌≡◌, ◌++◌, map}
use Rattle.geom_core.specs.Areas.{row}
use Rattle.plain_painter.specs.Steps.{point_of}
use Rattle.plain_painter.proofs.spots.add_row.Given as goal

-- the first points are added
abbrev pub invariant-loop-i : goal.invariant-loop-i
invariant-loop-i l = map point_of l.spots.items ≡ map point_of l.initial.spots.items ++ row l.x l.y l.i
