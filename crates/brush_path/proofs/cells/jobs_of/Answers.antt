use Rattle.std.proofs.Common.{◌≡◌, true, ◌&&◌, sym, ap, ◌∙◌, subst}
use Rattle.std.specs.Prelude.{All}
use Rattle.std.proofs.lemmas.List.Elements.{All-from_recursion}
use Rattle.doc_model.specs.declared.job.Job.{Job}
use Rattle.doc_model.specs.Jobs.{apply_all, checks}
use Rattle.doc_model.specs.Lawful.{within_limits}
use Rattle.doc_model.specs.Strokes.{conflict}
use Rattle.brush_path.specs.Cells.{jobs, jobs_in}
use Rattle.brush_path.specs.Laws.{concurrent}
use Rattle.brush_path.proofs.Laid.{jobs_are_dabs}
use Rattle.brush_path.proofs.Clear.{none_conflict}
use Rattle.brush_path.proofs.Sound.{jobs_sound}
use Rattle.brush_path.proofs.cells.jobs_of.Goals as goal

pub returns-clause-dabs : goal.returns-clause-dabs
returns-clause-dabs c layer =
    ap (λ js. apply_all js layer) (c.in_ok-jobs.ensures ∙ ap (jobs_in c.args.track.now) (c.deref.ensures.value ∙ c.in_ok-cells.ensures)) ∙ jobs_are_dabs c.args.track.now layer

pub returns-clause-apart : goal.returns-clause-apart
returns-clause-apart c =
    ap (λ js. conflict (concurrent js)) (c.in_ok-jobs.ensures ∙ ap (jobs_in c.args.track.now) (c.deref.ensures.value ∙ c.in_ok-cells.ensures)) ∙ none_conflict c.args.track.now

pub returns-clause-sound : goal.returns-clause-sound
returns-clause-sound c =
    subst (λ js. All (λ (j : Job). (checks j && within_limits j) ≡ true) js) (sym (c.in_ok-jobs.ensures ∙ ap (jobs_in c.args.track.now) (c.deref.ensures.value ∙ c.in_ok-cells.ensures)))
    (All-from_recursion (λ (j : Job). (checks j && within_limits j) ≡ true) (jobs c.args.track.now) (jobs_sound c.args.track.now c.requires.few c.requires.inside))
