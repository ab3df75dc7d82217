use Rattle.std.proofs.Common.{map, arith}
use borrow.Author.Differences.{ints}
use Rattle.plain_painter.specs.Steps.{point_of}
use Rattle.plain_painter.proofs.Points.{next_row}
use Rattle.plain_painter.proofs.spots.spots_of.Goals as goal

pub loop-i-preserved : goal.loop-i-preserved
loop-i-preserved c = next_row c.args.rect.now c.loop-i.i (map point_of c.loop-i.spots.items) (map point_of c.add_row.new.spots.items) _ _ _ c.in_ok-add_row.ensures c.loop-i.invariant (omega (arith, ints)) (omega (arith, ints)) c.w.ensures.value
