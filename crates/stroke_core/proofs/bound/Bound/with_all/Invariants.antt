use Rattle.std.proofs.Common.{take}
use Rattle.std.specs.Prelude.{All}
use Rattle.geom_core.specs.Areas.{Area}
use Rattle.stroke_core.specs.Bounds.{LiesIn}
use Rattle.stroke_core.proofs.bound.Bound.with_all.Given as goal

-- the rectangles so far lie in the bound, and all that lay in the first one
abbrev pub invariant-loop-rect : goal.invariant-loop-rect
invariant-loop-rect l = record {
  more : All (LiesIn l.bound) (take l.rect-index l.rects);
  kept : (a : Area) → LiesIn l.fn.self a → LiesIn l.bound a;
}
