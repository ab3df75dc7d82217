use Rattle.std.proofs.Common.{arith}
use borrow.Author.Differences.{ints}
use Rattle.job_core.proofs.Values.{block_of}
use Rattle.job_core.proofs.MoveValues.{brought_as}
use Rattle.job_core.proofs.moves.arrived.Goals as goal

pub returns : goal.returns
returns c = block_of _ _ _ c.in_ok-pixels.pixels.items c.from_pixels.result c.from_pixels.ensures
    (brought_as c.args.part c.args.shot.now c.args.dx c.args.dy _ _ c.in_ok-pixels.pixels.items (omega (arith, ints)) (omega (arith, ints)) c.in_ok-pixels.ensures.has)
