use Rattle.std.proofs.Common.{◌≡◌, pos, arith, refl, sym, ap, subst, ◌∙◌, to_z, of_z, w32}
use Rattle.geom_core.specs.Areas.{Area, holds, moved}
use Rattle.geom_core.specs.Rects.{IsShared}
use Rattle.std.specs.Prelude.{◌-ℤ◌}
use borrow.Author.Differences.{ints}
use Rattle.doc_model.specs.declared.job.Job.TheVariants.{Move}
use Rattle.job_core.proofs.MoveValues.{move_step, move_in_world, step_as, source_met, moved_back as back_moved, moved_part}
use Rattle.whole_tiles.proofs.Hanging.{due_of, key_of_job, move_enough, still_enough}
use Rattle.whole_tiles.proofs.needs.needs_of_move.Goals as goal

pub rect-requires : goal.rect-requires
rect-requires c = key_of_job (Move c.args.rect.now c.args.dx c.args.dy) c.args.key c.requires.checked c.requires.limits c.requires.met

pub moved_back-requires-clause-step : goal.moved_back-requires-clause-step
moved_back-requires-clause-step c = step_as c.args.dx c.args.dy _ _ (omega (arith, ints)) (omega (arith, ints)) (move_step _ _ _ _ _ (due_of (Move c.args.rect.now c.args.dx c.args.dy) c.args.key c.requires.checked c.requires.limits c.requires.met))

pub moved_back-requires-clause-from : goal.moved_back-requires-clause-from
moved_back-requires-clause-from c = moved_part c.in-Some.part c.args.to.now (pos 0 -ℤ c.args.dx) (pos 0 -ℤ c.args.dy) _ _ (omega (arith, ints)) (omega (arith, ints)) c.in-Some.ensures.shared.in_a
    (back_moved c.args.rect.now c.args.to.now c.args.dx c.args.dy _ _ c.requires.to refl refl (move_in_world _ _ _ _ _ (due_of (Move c.args.rect.now c.args.dx c.args.dy) c.args.key c.requires.checked c.requires.limits c.requires.met)))

pub part_in-requires-clause-key : goal.part_in-requires-clause-key
part_in-requires-clause-key c = key_of_job (Move c.args.rect.now c.args.dx c.args.dy) c.args.key c.requires.checked c.requires.limits c.requires.met

pub part_in-requires-clause-met : goal.part_in-requires-clause-met
part_in-requires-clause-met c = source_met _ c.args.dx c.args.dy _ _ c.args.to.now c.rect.result (due_of (Move c.args.rect.now c.args.dx c.args.dy) c.args.key c.requires.checked c.requires.limits c.requires.met) c.requires.to c.rect.ensures c.in-None.ensures.value

pub returns-in-Some : goal.returns-in-Some
returns-in-Some c =
    let x : to_z w32 (of_z w32 c.args.dx) ≡ c.args.dx = omega (arith, ints) in
    let y : to_z w32 (of_z w32 c.args.dy) ≡ c.args.dy = omega (arith, ints) in
    move_enough c.args.rect.now c.args.to.now c.in-Some.part c.moved_back.result c.args.dx c.args.dy c.args.key c.requires.to (c.moved_back.ensures ∙ (λ i. moved c.in-Some.part (pos 0 -ℤ x i) (pos 0 -ℤ y i)))
    (subst (λ (a : Area). IsShared c.args.to.now a c.in-Some.part) c.rect.ensures c.in-Some.ensures.shared)

pub returns-in-None : goal.returns-in-None
returns-in-None c = still_enough c.args.rect.now c.args.to.now c.part_in.result c.args.dx c.args.dy c.args.key c.requires.to (λ p h. ap (λ (a : Area). holds a p) (sym c.rect.ensures) ∙ c.in-None.ensures.apart p h) c.part_in.ensures
