-- Small jobs that were painted, where what they write is damaged.
use Rattle.std.proofs.Common.{◌≡◌, ℕ, suc, zero, Bool, true, false, Some, [], ◌∷◌, refl, sym, ap, ◌∙◌, subst}
use Rattle.std.specs.Prelude.{slice_get}
use Rattle.geom_core.specs.Areas.{Area, holds, Point}
use Rattle.geom_core.specs.Rects.{any_holds}
use Rattle.geom_core.specs.Grid.{Key, key_of}
use Rattle.geom_core.proofs.Tests.{none_left}
use Rattle.frame_core.specs.Marks.{on_canvas}
use Rattle.frame_core.specs.Damage.{Parts, is_damaged}
use Rattle.doc_model.specs.declared.job.Job.{Job}
use Rattle.doc_model.specs.Jobs.{writes}
use Rattle.machine_model.specs.State.{Free, Paints, State}
use Rattle.machine_model.specs.Event.{Publish, End}
use Rattle.machine_model.specs.Step.{StartStep, Run}
use Rattle.machine_model.proofs.Lists.{get_set}
use Rattle.desk_events.specs.SmallJobs.{PaintsSmall, StartsWithin, WritesWithin, small_events}
use Rattle.desk_core.specs.declared.folds.Folds.{Folds}
use Rattle.desk_core.specs.Tracking.{Tracks}
use Rattle.desk_core.proofs.Keeping.{begun}
use Rattle.desk_core.proofs.Tracking.{start_tracks, then_tracks, canvas_key}

-- a job that starts stands in its slot
begun_at : (old : State) (place : ℕ) (new : State) (step : StartStep old place new) → slice_get new.slots place ≡ Some (Paints (begun old place new step))
begun_at old place new step = ap (λ (s : State). slice_get s.slots place) step.new_is ∙ get_set old.slots place Free (Paints (begun old place new step)) step.free

-- a point out of the rectangle isn't written
unwritten : (bound : Area) (job : Job) (p : Point) → WritesWithin bound job → holds bound p ≡ false → any_holds (writes job) p ≡ false
unwritten bound job p within out = go (any_holds (writes job) p) refl
  where
    both : (t : Bool) → t ≡ true → t ≡ false → ⊥
    both true e h = cc
    both false e h = cc

    go : (t : Bool) → any_holds (writes job) p ≡ t → t ≡ false
    go false e = refl
    go true e = absurd (both (holds bound p) (within p e) out)

-- jobs that write within a rectangle alone, where it is damaged
small_run : (bound : Area) (place : ℕ) (key : Key) (n : ℕ) (old new : State) (d : Parts) (f : Folds) → ((p : Point) → on_canvas (key_of p) ≡ true → is_damaged d p ≡ false → holds bound p ≡ false) → (run : Run old (small_events place key n) new) → StartsWithin bound place key n old new run → Tracks old d false f → Tracks new d false f
small_run bound place key zero old new d f out run within is = subst (λ s. Tracks s d false f) (sym run) is
small_run bound place key (suc n) old new d f out run within is =
    small_run bound place key n ended new d f out run.2.2.2 within.1
    (then_tracks laid ended (End place) d false f refl run.2.2.1
    (then_tracks started laid (Publish place key) d false f refl run.2.1
    (start_tracks old started place d d false f (begun old place started run.1) run.1 (begun_at old place started run.1)
    (λ p on whole. (whole, unwritten bound run.1.job.1 p within.0 (out p on whole))) is)))
  where
    started : State
    started = run.0

    laid : State
    laid = run.2.0

    ended : State
    ended = run.2.2.0

never : {P : Type 0} → false ≡ true → P
never e = cc

pub small_tracks : (old new : State) (bound : Area) (d d' : Parts) (b : Bool) (f : Folds) → ((p : Point) → on_canvas (key_of p) ≡ true → is_damaged d' p ≡ false → (is_damaged d p ≡ false) × (any_holds (bound ∷ []) p ≡ false)) → PaintsSmall old bound new → Tracks old d b f → Tracks new d' false f
small_tracks old new bound d d' b f grows small is = small_run bound small.place small.key small.count old new d' f (λ p on whole. none_left (holds bound p) false (grows p on whole).1) small.run small.within (record {
  sound = is.sound;
  tracked = λ p inside whole. is.tracked p inside (grows p (canvas_key old p is.sound inside) whole).0;
  calm = λ h. never h;
  keeps = is.keeps;
})
