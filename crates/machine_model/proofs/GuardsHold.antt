-- What the events ask for.
use Rattle.std.proofs.Common.{◌≡◌, ℕ, true, not, [], Some, refl, sym, ap, ◌∙◌}
use Rattle.std.specs.Prelude.{slice_get}
use Rattle.doc_model.specs.declared.job.Job.{Job}
use Rattle.doc_model.specs.declared.job.Kind.{Kind}
use Rattle.doc_model.specs.declared.job.Kind.TheVariants.{Bar}
use Rattle.doc_model.specs.Jobs.{reads}
use Rattle.doc_model.specs.Shots.{shot_of}
use Rattle.doc_model.specs.Strokes.{Stroke, Exports}
use Rattle.machine_model.specs.State.{Painter, Free, Paints, State, head_stroke}
use Rattle.machine_model.specs.Slots.{is_walker, no_walker}
use Rattle.machine_model.specs.Guards.{kept_jobs, is_bar, is_exclusive}
use Rattle.machine_model.specs.Effects.{layer_in}
use Rattle.machine_model.specs.Step.{StartStep}
use Rattle.machine_model.specs.UnderWay.{AtRest}
use Rattle.machine_model.specs.GuardLaws.{BarrierStartsClean, ExclusiveHasNoWalk, ExportWaits}
use Rattle.machine_model.proofs.Lists.{get_set}
use Rattle.machine_model.proofs.SlotChanges.{any_beside}
use Rattle.machine_model.proofs.ActCaches.{at_rest}

-- the job that starts
abbrev pub starting : (old new : State) (place : ℕ) → StartStep old place new → Painter
starting old new place step = record { serial = old.next; index = step.next; job = step.job.1; shot = shot_of (reads step.job.1) (layer_in step.stroke.layer old.present); published = [] }

-- it stands in its slot
pub starts_at : (old new : State) (place : ℕ) (step : StartStep old place new) → slice_get new.slots place ≡ Some (Paints (starting old new place step))
starts_at old new place step = ap (λ (s : State). slice_get s.slots place) step.new_is ∙ get_set old.slots place Free _ step.free

pub barrier_starts_clean : BarrierStartsClean
barrier_starts_clean old new place step job shared = (
  ap no_walker step.new_is ∙ ap not (any_beside is_walker old.slots place Free _ step.free refl refl) ∙ clean.0,
  ap (λ (s : State). s.updates) step.new_is ∙ clean.1,
)
  where
    same_job : job.painter ≡ starting old new place step
    same_job = let e : Some (Paints job.painter) ≡ Some (Paints (starting old new place step)) = sym job.at_work ∙ starts_at old new place step in cc

    same_stroke : job.stroke ≡ step.stroke
    same_stroke = let e : Some job.stroke ≡ Some step.stroke = sym job.at_head ∙ ap head_stroke step.new_is ∙ step.at_head in cc

    listed : Some (Bar, job.painter.job) ≡ Some step.job
    listed = sym job.listed ∙ ap (λ (t : Stroke). slice_get (kept_jobs t) job.painter.index) same_stroke ∙ ap (λ (v : Painter). slice_get (kept_jobs step.stroke) v.index) same_job ∙ step.is_next

    bar : is_bar step.job.0 ≡ true
    bar = barred {k = (Bar, job.painter.job)} {k' = step.job} listed refl
      where
        barred : {k k' : Kind × Job} → Some k ≡ Some k' → is_bar k.0 ≡ true → is_bar k'.0 ≡ true
        barred {k = k} {k' = k'} e h = let same : k' ≡ k = cc in ap (λ (x : Kind × Job). is_bar x.0) same ∙ h

    clean : (no_walker old ≡ true) × (old.updates ≡ [])
    clean = step.barrier bar (ap (λ (t : Stroke). t.exclusive) (sym same_stroke) ∙ shared)

pub exclusive_has_no_walk : ExclusiveHasNoWalk
exclusive_has_no_walk s stroke n sound at_head begun alone = sound.walking.alone ((λ i. is_exclusive (at_head i) (begun i)) ∙ alone)

pub export_waits : ExportWaits
export_waits old new sound at_head step =
    let rest : AtRest old = at_rest old step.no_stroke sound.on_way in
    record { jobs = rest.idle; walks = step.no_walks; updates = step.clean (let e : Some step.entry ≡ Some Exports = sym step.at_head ∙ at_head in cc) }
