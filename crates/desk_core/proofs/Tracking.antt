-- A machine goes on being tracked.
use Rattle.std.proofs.Common.{Bool, refl, ◌≡◌, ℕ, ◌*◌, ◌+◌, ◌/◌, ◌<◌, true, false, ◌&&◌, List, [], ◌∷◌, Result, Ok, Err, OnOk, OnErr, Option, Some, None, is_some, nat_lt, sym, ap, ◌∙◌, subst, arith, ◌⊎◌, inl, inr}
use Rattle.std.specs.Prelude.{IfSome, IsSomeAnd, slice_get, ℤ, pos, negsuc, ◌+ℤ◌, int_le, int_lt}
use Rattle.std.specs.List.{list_all}
use Rattle.std.proofs.lemmas.Bool.Decides.{nat_tests}
use borrow.Author.Differences.{ints}
use Rattle.geom_core.specs.Areas.{Area, holds, Point, point}
use Rattle.geom_core.specs.Rects.{any_holds}
use Rattle.geom_core.specs.Grid.{key_of}
use Rattle.geom_core.proofs.Tests.{taken, both_true, and_left, and_right}
use Rattle.frame_core.specs.Marks.{on_canvas}
use Rattle.frame_core.specs.Damage.{Parts, is_damaged}
use Rattle.doc_model.specs.declared.job.Job.{Job}
use Rattle.doc_model.specs.Jobs.{reads, writes}
use Rattle.doc_model.specs.Shots.{shot_of}
use Rattle.machine_model.specs.Effects.{layer_in}
use Rattle.machine_model.specs.Walks.{walk_values}
use Rattle.machine_model.specs.Walking.{WalkInside}
use Rattle.doc_model.specs.Picture.{canvas_area}
use Rattle.doc_model.proofs.QueueLaws.{in_grid}
use Rattle.doc_model.specs.Strokes.{Stroke}
use Rattle.machine_model.specs.State.{Painter, Walker, Slot, Paints, Walks, State, head_stroke}
use Rattle.machine_model.specs.Event.{Event, Init, Start, WalkStart, WalkEnd}
use Rattle.machine_model.specs.Step.{Step, Run, WalkEndStep}
use Rattle.machine_model.specs.Sound.{IsSound}
use Rattle.machine_model.proofs.CanvasPoints.{canvas_grid}
use Rattle.machine_model.proofs.Lists.{all_get, get_set}
use Rattle.machine_model.proofs.RunsSound.{step_keeps_sound}
use Rattle.doc_model.specs.declared.canvas.Walk.TheVariants.{All}
use Rattle.doc_model.specs.declared.canvas.Patch.{Patch}
use Rattle.desk_core.specs.Calm.{IsCalm, IsRenewed}
use Rattle.desk_core.specs.UpToDate.{AreCached, cached_at, LeavesPoint, IsUpToDate, IsTracked, IsStill}
use Rattle.desk_core.specs.Tracking.{Tracks}
use Rattle.desk_core.specs.declared.folds.Folds.{Folds}
use Rattle.desk_core.specs.Events.{is_quiet, goes_by}
use Rattle.desk_core.specs.Keeping.{Keeps, Turns}
use Rattle.desk_core.proofs.Keeping.{step_keeps, begin_keeps, started_keeps}
use Rattle.desk_core.proofs.Ripe.{quiet_calm, end_up_to_date}
use Rattle.desk_core.proofs.Steps.{quiet_step, start_step, still_up_to_date}

-- after an event by which all goes on to hold
pub then_tracks : (old new : State) (e : Event) (d : Parts) (b : Bool) (f : Folds) → goes_by e ≡ true → Step old e new → Tracks old d b f → Tracks new d b f
then_tracks old new e d b f by step is = record {
  sound = step_keeps_sound old new e is.sound step;
  tracked = quiet_step old new e d is.sound step (and_left (is_quiet e) _ by) is.tracked;
  calm = λ h. quiet_calm old new e is.sound step (and_left (is_quiet e) _ by) (is.calm h);
  keeps = step_keeps old new e f (and_right (is_quiet e) _ by) is.sound step is.keeps;
}

-- a stroke begins
pub begin_tracks : (old new : State) (d : Parts) (b : Bool) (f f' : Folds) → Step old Init new → ((s : Stroke) → head_stroke old ≡ Some s → f'.layer ≡ s.layer) → (f' ≡ f) ⊎ ((f'.folds.items ≡ []) × (f'.since ≡ new.next)) → Tracks old d b f → Tracks new d b f'
begin_tracks old new d b f f' step layer turned is = record {
  sound = sound;
  tracked = quiet_step old new Init d is.sound step refl is.tracked;
  calm = λ h. quiet_calm old new Init is.sound step refl (is.calm h);
  keeps = begin_keeps old new f f' step sound layer turned is.keeps;
}
  where
    sound : IsSound new
    sound = step_keeps_sound old new Init is.sound step

-- a walk starts, and it is calm where it was before
pub calm_tracks : (old new : State) (place : ℕ) (patch : Patch) (d : Parts) (b c : Bool) (f f' : Folds) → (c ≡ true → IsCalm old) → Turns f f' patch.walk → Step old (WalkStart place patch) new → Tracks old d b f → Tracks new d c f'
calm_tracks old new place patch d b c f f' calm turns step is = record {
  sound = step_keeps_sound old new (WalkStart place patch) is.sound step;
  tracked = quiet_step old new (WalkStart place patch) d is.sound step refl is.tracked;
  calm = λ h. quiet_calm old new (WalkStart place patch) is.sound step refl (calm h);
  keeps = started_keeps old new place patch f f' step turns is.keeps;
}

-- or after nothing, where there was no memory
pub result_tracks : {A E : Type 0} (r : Result A E) (old new : State) (e : Event) (d : Parts) (b : Bool) (f : Folds) → goes_by e ≡ true → OnOk r (Step old e new) → OnErr r (new ≡ old) → Tracks old d b f → Tracks new d b f
result_tracks (Ok x) old new e d b f by step same is = then_tracks old new e d b f by step is
result_tracks (Err x) old new e d b f by step same is = subst (λ s. Tracks s d b f) (sym same) is

-- after several
pub run_tracks : (events : List Event) (old new : State) (d : Parts) (b : Bool) (f : Folds) → list_all goes_by events ≡ true → Run old events new → Tracks old d b f → Tracks new d b f
run_tracks [] old new d b f by run is = subst (λ s. Tracks s d b f) (sym run) is
run_tracks (e ∷ events) old new d b f by run is = run_tracks events run.0 new d b f (and_right (goes_by e) _ by) run.2 (then_tracks old run.0 e d b f (and_left (goes_by e) _ by) run.1 is)

few_tiles : (x : ℕ) → x < 2048 → nat_lt (x / 64) 32 ≡ true
few_tiles x h = let few : x / 64 < 32 = omega arith in grind (arith, nat_tests)

in_below : (x : ℕ) → (int_le (pos 0) (pos x) && int_lt (pos x) (pos 0 +ℤ pos 2048)) ≡ true → x < 2048
in_below x h = grind (arith, ints)

none_below : (x : ℕ) → (int_le (pos 0) (negsuc x) && int_lt (negsuc x) (pos 0 +ℤ pos 2048)) ≡ true → ⊥
none_below x h = grind (arith, ints)

-- a point of the largest canvas lies in one of its tiles
grid_key : (x y : ℤ) → in_grid (point x y) ≡ true → on_canvas (key_of (point x y)) ≡ true
grid_key (pos x) (pos y) h = ap is_some (taken (nat_lt (x / 64) 32 && nat_lt (y / 64) 32) (Some (32 * (y / 64) + x / 64)) None (both_true _ _ (few_tiles x (in_below x (and_left _ _ h))) (few_tiles y (in_below y (and_right _ _ h)))))
grid_key (negsuc x) y h = absurd (none_below x (and_left _ (int_le (pos 0) y && int_lt y (pos 0 +ℤ pos 2048)) h))
grid_key (pos x) (negsuc y) h = absurd (none_below y (and_right (int_le (pos 0) (pos x) && int_lt (pos x) (pos 0 +ℤ pos 2048)) _ h))

pub canvas_key : (s : State) (p : Point) → IsSound s → holds (canvas_area s.canvas) p ≡ true → on_canvas (key_of p) ≡ true
canvas_key s p sound inside = grid_key p.x p.y (canvas_grid s.canvas sound.orderly.counted.canvas p inside)

-- where all is damaged, unless nothing is at work and nothing waits
pub anew_tracks : (s : State) (d : Parts) (f : Folds) → IsSound s → Keeps s f → ((p : Point) → on_canvas (key_of p) ≡ true → is_damaged d p ≡ false → IsStill s) → Tracks s d false f
anew_tracks s d f sound keeps still = record {
  sound = sound;
  tracked = λ p inside whole. let is : IsStill s = still p (canvas_key s p sound inside) whole in still_up_to_date s sound is.updates is.painters is.walkers p inside;
  calm = λ h. absurd (let t : false ≡ true = h in cc);
  keeps = keeps;
}

-- where damage is forgotten only then
pub forgetful_tracks : (s : State) (d d' : Parts) (b : Bool) (f : Folds) → ((p : Point) → is_damaged d' p ≡ false → (is_damaged d p ≡ false) ⊎ IsStill s) → Tracks s d b f → Tracks s d' b f
forgetful_tracks s d d' b f less is = record {
  sound = is.sound;
  tracked = λ p inside whole. elim (less p whole) [
    | inl e ↦ is.tracked p inside e
    | inr still ↦ still_up_to_date s is.sound still.updates still.painters still.walkers p inside
  ];
  calm = is.calm;
  keeps = is.keeps;
}

-- the canvas stays
pub end_canvas : (old new : State) (place : ℕ) → WalkEndStep old place new → new.canvas ≡ old.canvas
end_canvas old new place step = ap (λ (s : State). s.canvas) step.new_is

-- a walk of all groups ends that composed what is there, and in its patch nothing is damaged any more
pub renewed_tracks : (old new : State) (place : ℕ) (d d' : Parts) (b : Bool) (f : Folds) (o : Option Area) → IfSome o (IsRenewed old b place) → WalkEndStep old place new
    → ((p : Point) → holds (canvas_area new.canvas) p ≡ true → on_canvas (key_of p) ≡ true → is_damaged d' p ≡ false → (is_damaged d p ≡ false) ⊎ (IsSomeAnd o (λ a. holds a p ≡ true))) → Tracks old d b f → Tracks new d' b f
renewed_tracks old new place d d' b f o renewed step less is = record {
  sound = after.sound;
  tracked = λ p inside whole. elim (less p inside (canvas_key new p after.sound inside) whole) [
    | inl e ↦ after.tracked p inside e
    | inr h ↦ within o renewed p h
  ];
  calm = after.calm;
  keeps = after.keeps;
}
  where
    after : Tracks new d b f
    after = then_tracks old new (WalkEnd place) d b f refl step is

    within : (o : Option Area) → IfSome o (IsRenewed old b place) → (p : Point) → IsSomeAnd o (λ a. holds a p ≡ true) → IsUpToDate new p
    within None here p h = absurd h
    within (Some a) here p h =
        let walk : (step.walker.patch.walk ≡ All) × (step.walker.patch.rect ≡ a) = here.1 step.walker step.runs in
        end_up_to_date old new place step.walker p is.sound step (is.calm here.0) step.runs walk.0 (ap (λ (r : Area). holds r p) walk.1 ∙ h)

-- a job starts, and what it writes is damaged
pub start_tracks : (old new : State) (place : ℕ) (d d' : Parts) (b : Bool) (f : Folds) (w : Painter) → Step old (Start place) new → slice_get new.slots place ≡ Some (Paints w)
    → ((p : Point) → on_canvas (key_of p) ≡ true → is_damaged d' p ≡ false → (is_damaged d p ≡ false) × (any_holds (writes w.job) p ≡ false)) → Tracks old d b f → Tracks new d' false f
start_tracks old new place d d' b f w step at grows is = record {
  sound = sound;
  tracked = start_step old new place d d' step (λ p inside whole. (
    (grows p (canvas_key new p sound inside) whole).0,
    ap (λ (j : Job). any_holds (writes j) p) job ∙ (grows p (canvas_key new p sound inside) whole).1,
  )) is.tracked;
  calm = λ h. absurd (let t : false ≡ true = h in cc);
  keeps = step_keeps old new (Start place) f refl is.sound step is.keeps;
}
  where
    sound : IsSound new
    sound = step_keeps_sound old new (Start place) is.sound step

    job : step.job.1 ≡ w.job
    job =
        let placed = get_set old.slots place _ (Paints (record { serial = old.next; index = step.next; job = step.job.1; shot = shot_of (reads step.job.1) (layer_in step.stroke.layer old.present); published = [] })) step.free in
        let same : Some (Paints (record { serial = old.next; index = step.next; job = step.job.1; shot = shot_of (reads step.job.1) (layer_in step.stroke.layer old.present); published = [] })) ≡ Some (Paints w) = sym placed ∙ ap (λ (s : State). slice_get s.slots place) (sym step.new_is) ∙ at in
        ap job_in same
      where
        job_in : Option Slot → Job
        job_in (Some (Paints v)) = v.job
        job_in o = w.job

-- the values of a walk at work are those of the caches
pub walk_known : (s : State) (d : Parts) (place : ℕ) (w : Walker) (p : Point) → IsSound s → IsTracked s d → slice_get s.slots place ≡ Some (Walks w) → holds w.patch.rect p ≡ true → is_damaged d p ≡ false
    → AreCached (cached_at s.caches p) (walk_values w.shot [] p)
walk_known s d place w p sound tracked at held whole =
    let up_to_date : IsUpToDate s p = tracked p (all_get (WalkInside (canvas_area s.canvas)) s.slots place (Walks w) sound.inside at p held) whole in
    all_get (LeavesPoint s.caches p) s.slots place (Walks w) up_to_date.leaves at held
