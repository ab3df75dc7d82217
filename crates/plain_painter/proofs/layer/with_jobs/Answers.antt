use Rattle.std.proofs.Common.{◌≡◌, ◌∷◌, ◌+◌, ◌∙◌, sym, ap, subst, take, true, Some, ℕ, length, refl}
use Rattle.std.specs.Prelude.{slice_get}
use Rattle.std.proofs.lemmas.Option.{slice_get_read}
use Rattle.std.specs.List.{list_all}
use Rattle.geom_core.proofs.Tests.{both_true}
use Rattle.plain_painter.specs.Steps.{is_sound}
use Rattle.doc_model.specs.declared.job.Job.{Job}
use Rattle.plain_painter.specs.declared.layer.Step.{Step}
use Rattle.plain_painter.specs.declared.layer.Deed.TheVariants.{Paint}
use Rattle.plain_painter.proofs.Layered.{Laid, one_laid, sound_at}
use Rattle.plain_painter.proofs.Fronts.{item_more}
use Rattle.plain_painter.proofs.layer.with_jobs.Goals as goal

abbrev step : ℕ → Job → Step
step layer job = record { layer = layer; deed = Paint job }

pub loop-entry-preserved : goal.loop-entry-preserved
loop-entry-preserved c =
    let at : slice_get c.args.jobs.now c.loop-entry.entry-index ≡ Some c.entry-item.result = slice_get_read c.args.jobs.now (length c.args.jobs.now) c.loop-entry.entry-index c.entry-item.result refl c.loop-entry-test.true c.entry-item.is in
    let all : c.in_ok-all-2.all.items ≡ step c.args.layer c.entry-item.result.1 ∷ c.loop-entry.all.items = c.in_ok-all-2.ensures ∙ ap (λ xs. step c.args.layer c.entry-item.result.1 ∷ xs) c.deref.ensures.value in (
      subst (λ xs. list_all is_sound xs ≡ true) (sym all) (both_true _ _ (sound_at c.args.jobs.now c.loop-entry.entry-index c.entry-item.result at c.requires.jobs_sound) c.loop-entry.invariant.0),
      subst (λ xs. Laid c.args.layer c.args.steps.now (take (c.loop-entry.entry-index + 1) c.args.jobs.now) xs) (sym all)
          (subst (λ js. Laid c.args.layer c.args.steps.now js (step c.args.layer c.entry-item.result.1 ∷ c.loop-entry.all.items)) (sym (item_more c.args.jobs.now c.loop-entry.entry-index c.entry-item.result at))
          (one_laid c.args.layer c.args.steps.now (take c.loop-entry.entry-index c.args.jobs.now) c.entry-item.result c.loop-entry.all.items c.loop-entry.invariant.1)),
    )
