use Rattle.std.proofs.Common.{◌≡◌, rules, ◌∙◌, true, Err, arith, subst, false, to_z, of_z, w32}
use borrow.Author.Differences.{ints}
use Rattle.geom_core.specs.Areas.{lies_in, world, moved}
use Rattle.doc_model.specs.declared.job.Job.TheVariants.{Move}
use Rattle.script_forms.specs.Jobs.{area_of}
use Rattle.script_forms.proofs.World.{checked_sound, box, held, not_held, both, right_not, answer, refused}
use Rattle.script_forms.proofs.jobs.move_of.Goals as goal
use Rattle.geom_core.proofs.Tests.{no_first}

pub returns-clause-value : goal.returns-clause-value
returns-clause-value c =
    let a = area_of c.args.o in
    let h = held a c.in_ok-rect.rect c.outline_rect.result c.outline_rect.ensures c.in_ok-rect.was in
    let k = held (moved c.in_ok-rect.rect c.args.dx c.args.dy) c.in_ok-moved_rect.field-0 c.moved_rect.result (search rules) c.in_ok-moved_rect.was in
    answer _ _ _ (both _ _ h.inside (subst (λ r. lies_in (moved r c.args.dx c.args.dy) world ≡ true) h.same k.inside)) (λ i. Move (h.same i) (dx i) (dy i))
  where
    dx : to_z w32 (of_z w32 c.args.dx) ≡ c.args.dx
    dx = omega (arith, ints)

    dy : to_z w32 (of_z w32 c.args.dy) ≡ c.args.dy
    dy = omega (arith, ints)

pub returns-in_err-rect-clause-value : goal.returns-in_err-rect-clause-value
returns-in_err-rect-clause-value c =
    let h = not_held (area_of c.args.o) c.in_err-rect.field-0.0 c.outline_rect.result c.outline_rect.ensures c.in_err-rect.was in
    let e : c.from_residual.result ≡ Err c.in_err-rect.field-0.0 = search rules in
    e ∙ refused _ _ _ (no_first _ _ h.outside) h.cause

pub returns-in_err-moved_rect-clause-value : goal.returns-in_err-moved_rect-clause-value
returns-in_err-moved_rect-clause-value c =
    let a = area_of c.args.o in
    let g = held a c.in_ok-rect.rect c.outline_rect.result c.outline_rect.ensures c.in_ok-rect.was in
    let h = not_held (moved c.in_ok-rect.rect c.args.dx c.args.dy) c.in_err-moved_rect.field-0.0 c.moved_rect.result (search rules) c.in_err-moved_rect.was in
    let e : c.from_residual-in_err-moved_rect.result ≡ Err c.in_err-moved_rect.field-0.0 = search rules in
    e ∙ refused _ _ _ (right_not _ _ (subst (λ r. lies_in (moved r c.args.dx c.args.dy) world ≡ false) g.same h.outside)) h.cause

pub returns-clause-sound : goal.returns-clause-sound
returns-clause-sound c = checked_sound (Move (area_of c.args.o) c.args.dx c.args.dy) _ (returns-clause-value c) (box c.args.o.w c.args.o.h c.requires.o.some_w c.requires.o.w c.requires.o.some_h c.requires.o.h)
