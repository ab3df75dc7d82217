use Rattle.std.proofs.Common.{arith}
use borrow.Author.Differences.{ints}
use Rattle.geom_core.specs.Grid.{tile}
use Rattle.job_core.proofs.MoveValues.{not_apart, all_moved, moved_back, some_left}
use Rattle.job_core.proofs.moves.left_behind.Goals as goal

pub returns-in_default-clause-none : goal.returns-in_default-clause-none
returns-in_default-clause-none c = not_apart c.args.rect.now c.rect.result (tile c.args.key) c.args.to.now c.rect.ensures c.in_default.ensures.apart

pub returns-then-is_within-clause-none : goal.returns-then-is_within-clause-none
returns-then-is_within-clause-none c = all_moved c.args.rect.now c.rect.result (tile c.args.key) c.in-Some.part c.args.to.now c.rect.ensures c.in-Some.ensures.shared (c.is_within.ensures c.if-is_within.true)

pub vacated-requires-clause-from : goal.vacated-requires-clause-from
vacated-requires-clause-from c = moved_back c.args.rect.now c.args.to.now c.args.dx c.args.dy _ _ c.requires.to (omega (arith, ints)) (omega (arith, ints)) c.requires.inside

pub returns-clause-some : goal.returns-clause-some
returns-clause-some c = some_left c.args.rect.now c.rect.result (tile c.args.key) c.in-Some.part c.args.to.now c.args.key c.args.shot.now c.args.dx c.args.dy _ _ c.in_ok-vacated.field-0 c.rect.ensures (omega (arith, ints)) (omega (arith, ints)) c.in-Some.ensures.shared c.in_ok-vacated.ensures
