-- From the machine's guards to what the parts of a desk have.
use Rattle.std.proofs.Common.{◌≡◌, ℕ, suc, zero, Bool, true, false, ◌||◌, Option, Some, None, is_some, List, [], ◌∷◌, length, refl, sym, ap, ◌∙◌, subst, drop}
use Rattle.std.specs.Prelude.{slice_get, option_map}
use Rattle.std.specs.FinSet as set
use Rattle.std.specs.FinSet.{FinSet}
use Rattle.geom_core.specs.Areas.{Area}
use Rattle.geom_core.specs.Grid.{key_cmp}
use Rattle.doc_model.specs.declared.command.Outcome.{Outcome}
use Rattle.doc_model.specs.Forest.{content}
use Rattle.doc_model.specs.Layers.{Layer}
use Rattle.doc_model.specs.Strokes as doc
use Rattle.doc_model.specs.Kept.{up_to}
use Rattle.doc_model.specs.Strokes.{Stroke, Fate, Open, Ended, Cancelled, Strokes, conflict, entries}
use Rattle.stroke_core.specs.Fed.{Fed, Closed}
use Rattle.entry_queue.specs.declared.entry.Entry.TheVariants.{Waiting, Whole}
use Rattle.entry_queue.specs.Pushed as pushed
use Rattle.entry_queue.specs.Pushed.{queued, kept_of}
use Rattle.std.specs.List.{AllByRecursion}
use Rattle.doc_model.specs.declared.job.Job.{Job}
use Rattle.doc_model.specs.declared.job.Kind.{Kind}
use Rattle.doc_model.specs.Jobs.{reads, checks}
use Rattle.doc_model.specs.Shots.{shot_of}
use Rattle.doc_model.specs.Lawful.{within_limits}
use Rattle.tile_core.specs.Shots.{Sight}
use Rattle.job_core.specs.Paints.{layer_of}
use Rattle.entry_queue.proofs.Taking.{all_fit, Fits, lawful_fits, kept_fit}
use Rattle.desk_steps.specs.Archives.{layer_under_way}
use Rattle.machine_model.specs.State.{State, first, head, head_stroke}
use Rattle.machine_model.specs.Step.{InitStep, StartStep, FinishStep, CancelStep}
use Rattle.machine_model.specs.Guards.{kept_jobs, is_cancelled, is_ended, is_closed, is_paint}
use Rattle.machine_model.proofs.Lists.{each_get}
use Rattle.machine_model.specs.Groups.{parent_of}
use Rattle.machine_model.specs.Effects.{cancel_outcome}
use Rattle.geom_core.specs.Touches.{bound_of}
use Rattle.machine_model.proofs.FeedKeeps.{head_is}
use Rattle.desk_state.specs.Parts.{Parts, state_of}
use Rattle.desk_state.specs.Tied.{IsDesk}
use Rattle.desk_state.proofs.Keeping.{IsGoing, going}
use Rattle.desk_state.proofs.Heads.{head_queued, IsStrokeHead, whole_head, waiting_head, fate_of}
use Rattle.desk_state.proofs.Beginning.{MayBegin, MayStart}
use Rattle.desk_state.proofs.Places.{free_as}
use Rattle.desk_state.proofs.Leaving.{MayFinish, MayRefuse, MayCancel}

-- the stroke at the head, as the queue has it
pub stroke_first : (d : Parts) (s : Stroke) → IsDesk d → head_stroke (state_of d) ≡ Some s → slice_get d.queue.left 0 ≡ Some (queued (Strokes s))
stroke_first d s desk h = head_queued d desk ∙ ap (option_map queued) (head_is (head (state_of d)) s h)

-- whether a fate is that of a cancelled stroke
abbrev pub cancelled_by : Fate → Bool
cancelled_by Open = false
cancelled_by Ended = false
cancelled_by Cancelled = true

-- a closed one
pub closed_first : (d : Parts) (s : Stroke) → IsDesk d → head_stroke (state_of d) ≡ Some s → is_closed s ≡ true → slice_get d.queue.left 0 ≡ Some (Whole (record { stroke = kept_of s; cancelled = cancelled_by s.fate }))
closed_first d s desk h closed = stroke_first d s desk h ∙ by s.fate closed
  where
    by : (f : Fate) → is_closed (record s { fate = f }) ≡ true → Some (pushed.stroke_of f (kept_of s)) ≡ Some (Whole (record { stroke = kept_of s; cancelled = cancelled_by f }))
    by Open c = cc
    by Ended c = refl
    by Cancelled c = refl

-- an ended one
pub ended_first : (d : Parts) (s : Stroke) → IsDesk d → head_stroke (state_of d) ≡ Some s → is_ended s ≡ true → slice_get d.queue.left 0 ≡ Some (Whole (record { stroke = kept_of s; cancelled = false }))
ended_first d s desk h ended = stroke_first d s desk h ∙ by s.fate ended
  where
    by : (f : Fate) → is_ended (record s { fate = f }) ≡ true → Some (pushed.stroke_of f (kept_of s)) ≡ Some (Whole (record { stroke = kept_of s; cancelled = false }))
    by Open c = cc
    by Ended c = refl
    by Cancelled c = cc

pub clear_of_overlap : (o : Option (ℕ × ℕ)) → is_some o ≡ false → o ≡ None
clear_of_overlap None e = refl
clear_of_overlap (Some p) e = cc

-- the machine's Finish, where a stroke is under way
pub may_finish : (d : Parts) (new : State) (n : ℕ) → IsDesk d → (step : FinishStep (state_of d) new) → d.way ≡ Some n → MayFinish d (record { stroke = kept_of step.stroke; cancelled = false })
may_finish d new n desk step e = record {
  first = ended_first d step.stroke desk step.at_head step.ended;
  ended = refl;
  no_overlap = clear;
  all = (step.all_ended paint).0 ∙ ap (λ o. Some (length (up_to step.stroke.jobs o))) (sym clear);
  idle = (step.all_ended paint).1;
}
  where
    clear : conflict step.stroke.jobs ≡ None
    clear = clear_of_overlap _ step.no_overlap

    g : IsGoing d
    g = going d n desk e

    some_stroke : (a b : Stroke) → Some a ≡ Some b → a ≡ b
    some_stroke a b h = cc

    paint : is_paint step.stroke.layer d.store.base ≡ true
    paint = ap (λ (s : Stroke). is_paint s.layer d.store.base) (some_stroke _ _ (sym step.at_head ∙ g.under.at_head)) ∙ ap is_some g.under.was

-- and where none is
pub may_refuse : (d : Parts) (new : State) → IsDesk d → (step : FinishStep (state_of d) new) → d.way ≡ None → MayRefuse d (record { stroke = kept_of step.stroke; cancelled = false })
may_refuse d new desk step e = record {
  first = ended_first d step.stroke desk step.at_head step.ended;
  ended = refl;
  no_overlap = clear_of_overlap _ step.no_overlap;
  no_paint = go (content step.stroke.layer d.store.base) refl;
}
  where
    never : (n : ℕ) → None ≡ Some n → ⊥
    never n h = cc

    go : (o : Option Layer) → content step.stroke.layer d.store.base ≡ o → o ≡ None
    go None h = refl
    go (Some layer) h = absurd (never _ (sym e ∙ (step.all_ended (ap is_some h)).0))

-- the machine's Cancel
pub may_cancel : (d : Parts) (new : State) (o : Outcome) (g : ℕ) (round : Option Area) → IsDesk d → (step : CancelStep (state_of d) new) → o ≡ cancel_outcome (conflict step.stroke.jobs) → g ≡ parent_of step.stroke.layer d.store.present
    → ((layer : ℕ) (keys : FinSet key_cmp) → d.store.way ≡ Some (layer, keys) → round ≡ bound_of (set.items keys)) → (d.store.way ≡ None → round ≡ None) → MayCancel d (record { stroke = kept_of step.stroke; cancelled = cancelled_by step.stroke.fate }) o g round
may_cancel d new o g round desk step out group begun not_begun = record {
  first = closed_first d step.stroke desk step.at_head step.closed;
  refused = ap (λ b. b || is_some (conflict step.stroke.jobs)) (by step.stroke.fate) ∙ step.refused;
  idle = step.idle;
  outcome = out;
  group = group;
  begun = begun;
  not_begun = not_begun;
}
  where
    by : (f : Fate) → cancelled_by f ≡ is_cancelled (record step.stroke { fate = f })
    by Open = refl
    by Ended = refl
    by Cancelled = refl

-- the layer of the stroke at the head
pub layer_of_whole : (d : Parts) (c : Closed) (s : Stroke) → IsDesk d → slice_get d.queue.left 0 ≡ Some (Whole c) → head_stroke (state_of d) ≡ Some s → c.stroke.layer ≡ s.layer
layer_of_whole d c s desk first h =
    let x : IsStrokeHead d (fate_of c.cancelled) c.stroke = whole_head d c desk first in
    sym (ap (λ (f : Fed). f.layer) x.kept_is) ∙ ap (λ (t : Stroke). t.layer) (same _ _ (sym x.at_head ∙ h))
  where
    same : (a b : Stroke) → Some a ≡ Some b → a ≡ b
    same a b e = cc

pub layer_of_waiting : (d : Parts) (f : Fed) (s : Stroke) → IsDesk d → slice_get d.queue.left 0 ≡ Some (Waiting f) → head_stroke (state_of d) ≡ Some s → f.layer ≡ s.layer
layer_of_waiting d f s desk first h =
    let x : IsStrokeHead d Open f = waiting_head d f desk first in
    sym (ap (λ (g : Fed). g.layer) x.kept_is) ∙ ap (λ (t : Stroke). t.layer) (same _ _ (sym x.at_head ∙ h))
  where
    same : (a b : Stroke) → Some a ≡ Some b → a ≡ b
    same a b e = cc

-- the machine's Init
pub may_begin : (d : Parts) (new : State) → (step : InitStep (state_of d) new) → MayBegin d step.stroke.fate (kept_of step.stroke)
may_begin d new step = record {
  head = record { stroke = step.stroke; at_head = step.at_head; fate_is = refl; kept_is = refl };
  not_begun = step.not_begun;
  not_cancelled = step.not_cancelled;
  no_overlap = clear_of_overlap _ step.no_overlap;
  on_paint = step.on_paint;
  alone = step.alone;
}

fits_at : (k : ℕ) (es : List doc.Entry) (s : Stroke) → first (drop k es) ≡ Some (Strokes s) → AllByRecursion Fits es → all_fit s.jobs ≡ true
fits_at zero [] s h all = cc
fits_at zero (e ∷ es) s h all = let same : e ≡ Strokes s = cc in subst Fits same all.0
fits_at (suc k) [] s h all = cc
fits_at (suc k) (e ∷ es) s h all = fits_at k es s h all.1

-- the jobs of the stroke at the head are within the limits
pub job_fits : (d : Parts) (s : Stroke) (n : ℕ) (job : Kind × Job) → IsDesk d → head_stroke (state_of d) ≡ Some s → slice_get (kept_jobs s) n ≡ Some job → within_limits job.1 ≡ true
job_fits d s n job desk h is = each_get (λ (j : Kind × Job). within_limits j.1) (kept_jobs s) n job is
    (kept_fit s.jobs (fits_at (length d.queue.outcomes) (entries d.fed) s (head_is (head (state_of d)) s h) (lawful_fits d.fed desk.sound.orderly.told.lawful)))

-- the machine's Start, with a shot of the job's reads
pub may_start : (d : Parts) (new : State) (place : ℕ) (shot : Sight) → IsDesk d → (step : StartStep (state_of d) place new) → checks step.job.1 ≡ true → shot.rects ≡ reads step.job.1
    → layer_of shot ≡ shot_of (reads step.job.1) (layer_under_way d.store.way d.store.present) → MayStart d step.stroke.fate (kept_of step.stroke) place step.next step.job shot
may_start d new place shot desk step checked rects shows = record {
  head = record { stroke = step.stroke; at_head = step.at_head; fate_is = refl; kept_is = refl };
  begun = step.begun;
  not_cancelled = step.not_cancelled;
  no_overlap = clear_of_overlap _ step.no_overlap;
  free = free_as d.slots place step.free;
  is_next = step.is_next;
  unblocked = step.unblocked;
  barrier = step.barrier;
  rects = rects;
  checked = checked;
  limits = job_fits d step.stroke step.next step.job desk step.at_head step.is_next;
  shows = shows;
}
