use Rattle.std.proofs.Common.{◌≡◌, Bool, true, false, Option, refl, sym, ap, subst, ◌∙◌}
use Rattle.std.specs.Prelude.{IfSome, replicate}
use Rattle.std.specs.Bool.{then_some}
use Rattle.pixel_core.specs.Rgba.{Rgba}
use Rattle.tile_core.specs.Pixels.{Pixels}
use Rattle.doc_model.specs.declared.job.Job.{Job}
use Rattle.job_core.specs.declared.ink.Ink.{Ink}
use Rattle.job_core.specs.Laid.{LeavesAll}
use Rattle.job_core.specs.Points.{IsPointJob, LaysJob}
use Rattle.job_core.specs.Tasks.{job_of, fill_of}
use Rattle.job_core.proofs.Values.{one_met, some_of_limits}
use Rattle.job_core.proofs.InPlace.{fill_plain}
use Rattle.job_core.proofs.points.covering.Goals as goal

pub covers-requires-clause-met : goal.covers-requires-clause-met
covers-requires-clause-met c =
    let work : IsPointJob c.args.key (fill_of c.in-Fill.rect c.in-Fill.ink) = subst (λ (j : Job). IsPointJob c.args.key j) (sym c.task_of.ensures ∙ ap job_of c.in-Fill.is) c.requires.work in
    one_met c.in-Fill.rect c.args.key (some_of_limits c.in-Fill.rect work.limits) work.met

pub returns-in-Fill : goal.returns-in-Fill
returns-in-Fill c = some_if (λ (ink : Ink). (old : Pixels) (d : Rgba) → LeavesAll ink old d → LaysJob c.args.key c.args.job.now old (replicate 4096 d)) c.covers.result c.in-Fill.ink c.then_some.result c.then_some.ensures
    (λ t old d leaves. subst (λ (j : Job). LaysJob c.args.key j old (replicate 4096 d)) (sym (ap job_of c.in-Fill.is) ∙ c.task_of.ensures)
    (fill_plain c.in-Fill.rect c.in-Fill.ink c.args.key old d (c.covers.ensures t) leaves))
  where
    some_if : (P : Ink → Type 0) (b : Bool) (x : Ink) (o : Option Ink) → o ≡ then_some b x → (b ≡ true → P x) → IfSome o P
    some_if P true x o e h = subst (λ o. IfSome o P) (sym e) (h refl)
    some_if P false x o e h = subst (λ o. IfSome o P) (sym e) tt
