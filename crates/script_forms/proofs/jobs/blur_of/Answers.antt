use Rattle.std.proofs.Common.{◌≡◌, rules, ap, ◌∙◌, true, false, Err, subst}
use Rattle.geom_core.specs.Areas.{lies_in, world}
use Rattle.doc_model.specs.Jobs.{grown}
use Rattle.doc_model.specs.declared.job.Job.TheVariants.{Blur}
use Rattle.script_forms.specs.Jobs.{area_of}
use Rattle.script_forms.proofs.World.{checked_sound, box_and, held, not_held, one, answer, refused, inner}
use Rattle.script_forms.proofs.jobs.blur_of.Goals as goal
use Rattle.geom_core.proofs.Tests.{no_first}

pub returns-clause-value : goal.returns-clause-value
returns-clause-value c =
    let a = area_of c.args.o in
    let r = c.args.r in
    let h = held a c.in_ok-rect.rect c.outline_rect.result c.outline_rect.ensures c.in_ok-rect.was in
    let k = held (grown c.in_ok-rect.rect r) c.in_ok-grown_rect.field-0 c.grown_rect.result c.grown_rect.ensures c.in_ok-grown_rect.was in
    answer _ _ _ (one _ (subst (λ b. lies_in (grown b r) world ≡ true) h.same k.inside)) (ap (λ b. Blur b r) h.same)

pub returns-in_err-rect-clause-value : goal.returns-in_err-rect-clause-value
returns-in_err-rect-clause-value c =
    let h = not_held (area_of c.args.o) c.in_err-rect.field-0.0 c.outline_rect.result c.outline_rect.ensures c.in_err-rect.was in
    let e : c.from_residual.result ≡ Err c.in_err-rect.field-0.0 = search rules in
    e ∙ refused _ _ _ (no_first _ _ (inner (area_of c.args.o) c.args.r h.outside)) h.cause

pub returns-in_err-grown_rect-clause-value : goal.returns-in_err-grown_rect-clause-value
returns-in_err-grown_rect-clause-value c =
    let r = c.args.r in
    let g = held (area_of c.args.o) c.in_ok-rect.rect c.outline_rect.result c.outline_rect.ensures c.in_ok-rect.was in
    let h = not_held (grown c.in_ok-rect.rect r) c.in_err-grown_rect.field-0.0 c.grown_rect.result c.grown_rect.ensures c.in_err-grown_rect.was in
    let e : c.from_residual-in_err-grown_rect.result ≡ Err c.in_err-grown_rect.field-0.0 = search rules in
    e ∙ refused _ _ _ (no_first _ _ (subst (λ b. lies_in (grown b r) world ≡ false) g.same h.outside)) h.cause

pub returns-clause-sound : goal.returns-clause-sound
returns-clause-sound c = checked_sound (Blur (area_of c.args.o) c.args.r) _ (returns-clause-value c) (box_and c.args.o.w c.args.o.h c.args.r c.requires.o.some_w c.requires.o.w c.requires.o.some_h c.requires.o.h c.requires.r.0 c.requires.r.1)
