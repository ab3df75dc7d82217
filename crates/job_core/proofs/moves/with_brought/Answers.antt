use Rattle.std.proofs.Common.{pos, arith}
use Rattle.std.specs.Prelude.{◌-ℤ◌}
use borrow.Author.Differences.{ints}
use Rattle.job_core.proofs.MoveValues.{moved_part, left_pixels, plain_left}
use Rattle.job_core.proofs.moves.with_brought.Goals as goal

pub returns-in_default-clause-has : goal.returns-in_default-clause-has
returns-in_default-clause-has c = plain_left c.args.part.now c.args.to.now c.args.shot.now c.args.dx c.args.dy c.args.pixels.items c.in_default.ensures.apart c.requires.plain

pub brought-requires-clause-from : goal.brought-requires-clause-from
brought-requires-clause-from c = moved_part c.in-Some.common c.args.to.now (pos 0 -ℤ c.args.dx) (pos 0 -ℤ c.args.dy) _ _ (omega (arith, ints)) (omega (arith, ints)) c.in-Some.ensures.shared.in_b c.requires.from

pub returns-clause-has : goal.returns-clause-has
returns-clause-has c = left_pixels c.args.part.now c.args.to.now c.in-Some.common c.args.shot.now c.args.dx c.args.dy _ _ c.args.pixels.items c.overlaid.result.items c.deref.result.now c.in_ok-src.src.items
    (omega (arith, ints)) (omega (arith, ints)) c.in-Some.ensures.shared c.requires.plain c.deref.ensures.value c.in_ok-src.ensures.has c.overlaid.ensures.has
