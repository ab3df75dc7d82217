use Rattle.std.proofs.Common.{pos, arith, refl}
use Rattle.std.specs.Prelude.{◌-ℤ◌}
use borrow.Author.Differences.{ints}
use Rattle.job_core.proofs.Keys.{due_key}
use Rattle.job_core.proofs.MoveValues.{move_step, move_in_world, step_as, source_met, moved_back, moved_part, block_left_as, block_brought_as, painted_source, painted_both}
use Rattle.job_core.proofs.moves.moved.Goals as goal

pub rect-requires : goal.rect-requires
rect-requires c = due_key _ _ _ c.requires.due

pub part_in-part-requires-clause-key : goal.part_in-part-requires-clause-key
part_in-part-requires-clause-key c = due_key _ _ _ c.requires.due

pub part_in-part-requires-clause-met : goal.part_in-part-requires-clause-met
part_in-part-requires-clause-met c = source_met _ c.args.dx c.args.dy c.args.shot.now _ c.args.to.now c.rect.result c.requires.due c.requires.to c.rect.ensures c.in_default.ensures.value

pub vacated-requires-clause-key : goal.vacated-requires-clause-key
vacated-requires-clause-key c = due_key _ _ _ c.requires.due

pub vacated-requires-clause-step : goal.vacated-requires-clause-step
vacated-requires-clause-step c = step_as c.args.dx c.args.dy _ _ (omega (arith, ints)) (omega (arith, ints)) (move_step _ _ _ _ _ c.requires.due)

pub vacated-requires-clause-from : goal.vacated-requires-clause-from
vacated-requires-clause-from c = moved_back c.args.rect.now c.args.to.now c.args.dx c.args.dy _ _ c.requires.to (omega (arith, ints)) (omega (arith, ints)) (move_in_world _ _ _ _ _ c.requires.due)

pub returns-in_default : goal.returns-in_default
returns-in_default c = painted_source c.args.rect.now c.args.dx c.args.dy c.args.shot.now c.args.key c.args.to.now c.rect.result c.part_in-part.result c.in_ok-first.first c.requires.due c.requires.to c.rect.ensures c.in_default.ensures.apart c.part_in-part.ensures
    (block_left_as c.args.key c.part_in-part.result c.args.shot.now c.args.to.now c.args.dx c.args.dy _ _ c.in_ok-first.first (omega (arith, ints)) (omega (arith, ints)) c.in_ok-first.ensures)

pub arrived-requires-clause-key : goal.arrived-requires-clause-key
arrived-requires-clause-key c = due_key _ _ _ c.requires.due

pub arrived-requires-clause-step : goal.arrived-requires-clause-step
arrived-requires-clause-step c = step_as c.args.dx c.args.dy _ _ (omega (arith, ints)) (omega (arith, ints)) (move_step _ _ _ _ _ c.requires.due)

pub arrived-requires-clause-from : goal.arrived-requires-clause-from
arrived-requires-clause-from c = moved_part c.in-Some.part c.args.to.now (pos 0 -ℤ c.args.dx) (pos 0 -ℤ c.args.dy) _ _ (omega (arith, ints)) (omega (arith, ints)) c.in-Some.ensures.shared.in_a
    (moved_back c.args.rect.now c.args.to.now c.args.dx c.args.dy _ _ c.requires.to refl refl (move_in_world _ _ _ _ _ c.requires.due))

pub left_behind-requires-clause-step : goal.left_behind-requires-clause-step
left_behind-requires-clause-step c = step_as c.args.dx c.args.dy _ _ (omega (arith, ints)) (omega (arith, ints)) (move_step _ _ _ _ _ c.requires.due)

pub left_behind-requires-clause-inside : goal.left_behind-requires-clause-inside
left_behind-requires-clause-inside c = move_in_world _ _ _ _ _ c.requires.due

pub returns : goal.returns
returns c = painted_both c.args.rect.now c.args.dx c.args.dy c.args.shot.now c.args.key c.args.to.now c.rect.result c.in-Some.part _ _ c.in_ok-first-2.first c.in_ok-second.second (omega (arith, ints)) (omega (arith, ints)) c.requires.due c.requires.to c.rect.ensures c.in-Some.ensures.shared
    (block_brought_as c.args.key c.in-Some.part c.args.shot.now c.args.dx c.args.dy _ _ c.in_ok-first-2.first (omega (arith, ints)) (omega (arith, ints)) c.in_ok-first-2.ensures)
    c.in_ok-second.ensures.none c.in_ok-second.ensures.some
