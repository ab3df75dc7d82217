use Rattle.std.proofs.Common.{◌≡◌, map}
use Rattle.geom_core.specs.Areas.{rows}
use Rattle.plain_painter.specs.Steps.{point_of}
use Rattle.plain_painter.proofs.spots.spots_of.Given as goal

-- the first rows are there
abbrev pub invariant-loop-i : goal.invariant-loop-i
invariant-loop-i l = map point_of l.spots.items ≡ rows l.rect.x l.rect.y l.rect.w l.i
