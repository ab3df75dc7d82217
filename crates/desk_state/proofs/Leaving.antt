-- A stroke that leaves the queue: what the desk does is the event of the machine.
use Rattle.std.proofs.Common.{◌≡◌, ℕ, Bool, true, false, ◌||◌, Option, Some, None, is_some, List, [], ◌∷◌, ◌++◌, length, take, refl, sym, ap, ◌∙◌, subst}
use Rattle.std.specs.Prelude.{slice_get}
use Rattle.std.specs.List.{list_any}
use Rattle.std.specs.FinSet as set
use Rattle.std.specs.FinSet.{FinSet}
use Rattle.geom_core.specs.Areas.{Area}
use Rattle.geom_core.specs.Grid.{Key, key_cmp, same_key, key_set}
use Rattle.geom_core.specs.Keys.{key_cmp_total}
use Rattle.geom_core.proofs.Tests.{not_true, or_left}
use Rattle.geom_core.proofs.Tiles.{key_is}
use Rattle.doc_model.specs.declared.command.Outcome.{Outcome}
use Rattle.doc_model.specs.declared.command.Outcome.TheVariants as outcome
use Rattle.doc_model.specs.declared.canvas.Walk.TheVariants.{Up}
use Rattle.doc_model.specs.Forest.{content}
use Rattle.doc_model.specs.Strokes.{Stroke, Jobs, Ended, conflict}
use Rattle.doc_model.specs.Kept.{up_to}
use Rattle.doc_model.specs.Updates.{queued}
use Rattle.stroke_core.specs.Fed.{Fed, Closed}
use Rattle.entry_queue.specs.declared.entry.Entry.{Entry}
use Rattle.entry_queue.specs.declared.entry.Entry.TheVariants.{Waiting, Whole, Other}
use Rattle.entry_queue.specs.Pushed.{StandsFor, may_leave}
use Rattle.entry_queue.proofs.Standing.{stands_popped}
use Rattle.desk_steps.specs.Archives.{Archive, finished}
use Rattle.machine_model.specs.State.{State, Part}
use Rattle.machine_model.specs.Event.{Finish, Cancel}
use Rattle.machine_model.specs.Step.{Step}
use Rattle.machine_model.specs.Slots.{no_painter}
use Rattle.machine_model.specs.Groups.{parent_of}
use Rattle.machine_model.specs.Guards.{kept_jobs, is_cancelled, is_closed, is_paint}
use Rattle.machine_model.specs.Effects.{writes_of, started_jobs, updates_with, after_finish, cancel_outcome, no_paint_outcome}
use Rattle.geom_core.specs.Touches.{bound_of}
use Rattle.machine_model.proofs.Lists.{take_all}
use Rattle.machine_model.proofs.RunsSound.{step_keeps_sound}
use Rattle.desk_state.specs.Parts.{Parts, state_of}
use Rattle.desk_state.specs.Tied.{IsDesk, IsWay}
use Rattle.update_queue.specs.Waiting.{widened_by}
use Rattle.desk_state.specs.After.{after_done, after_revert, after_outcome, popped}
use Rattle.desk_state.proofs.Keeping.{IsGoing, going}
use Rattle.desk_state.proofs.Heads.{IsStrokeHead, whole_head, fate_of}
use Rattle.desk_state.proofs.Noting.{keys_are}

-- the first entry of the queue leaves it
pub leaves : (d : Parts) (c : Closed) (o : Outcome) → IsDesk d → slice_get d.queue.left 0 ≡ Some (Whole c) → StandsFor d.fed (popped d.queue o)
leaves d c o desk first = stands_popped d.fed d.queue o (may d.queue.left first) desk.queue
  where
    whole : (e : Entry) (es : List Entry) → Some e ≡ Some (Whole c) → may_leave (e ∷ es) ≡ true
    whole (Waiting s) es h = cc
    whole (Whole k) es h = refl
    whole (Other k) es h = refl

    may : (es : List Entry) → slice_get es 0 ≡ Some (Whole c) → may_leave es ≡ true
    may [] h = cc
    may (e ∷ es) h = whole e es h

-- the stroke at the head may finish: it was ended without a conflict, all its jobs were started, and none is at work
pub record MayFinish (d : Parts) (c : Closed) : Type 0 where
  pub first : slice_get d.queue.left 0 ≡ Some (Whole c)
  pub ended : c.cancelled ≡ false
  pub no_overlap : c.stroke.overlap ≡ None
  pub all : d.way ≡ Some (length c.stroke.jobs)
  pub idle : no_painter (state_of d) ≡ true

kept_whole : (s : Stroke) → conflict s.jobs ≡ None → kept_jobs s ≡ s.jobs
kept_whole s e = ap (up_to s.jobs) e

-- what is known of a stroke that may finish
record Whence (d : Parts) (c : Closed) : Type 0 where
  head : IsStrokeHead d Ended c.stroke
  going : IsGoing d
  same : going.begun.stroke ≡ head.stroke
  clear : conflict head.stroke.jobs ≡ None
  count : going.n ≡ length head.stroke.jobs
  keys : going.begun.keys ≡ key_set (writes_of head.stroke.jobs)

whence : (d : Parts) (c : Closed) → IsDesk d → MayFinish d c → Whence d c
whence d c desk may = record { head = head; going = g; same = same; clear = clear; count = count; keys = keys }
  where
    head : IsStrokeHead d Ended c.stroke
    head = subst (λ b. IsStrokeHead d (fate_of b) c.stroke) may.ended (whole_head d c desk may.first)

    g : IsGoing d
    g = going d (length c.stroke.jobs) desk may.all

    some_stroke : (a b : Stroke) → Some a ≡ Some b → a ≡ b
    some_stroke a b e = cc

    same : g.begun.stroke ≡ head.stroke
    same = some_stroke _ _ (sym g.begun.at_head ∙ head.at_head)

    clear : conflict head.stroke.jobs ≡ None
    clear = ap (λ (f : Fed). f.overlap) head.kept_is ∙ may.no_overlap

    jobs : head.stroke.jobs ≡ c.stroke.jobs
    jobs = sym (kept_whole head.stroke clear) ∙ ap (λ (f : Fed). f.jobs) head.kept_is

    some_number : (a b : ℕ) → Some a ≡ Some b → a ≡ b
    some_number a b e = cc

    count : g.n ≡ length head.stroke.jobs
    count = some_number _ _ (sym g.way ∙ may.all) ∙ ap length (sym jobs)

    keys : g.begun.keys ≡ key_set (writes_of head.stroke.jobs)
    keys =
        keys_are (kept_jobs g.begun.stroke) (state_of d).slots g.n g.begun.keys g.begun.notes (not_true _ may.idle)
        ∙ ap (λ s. key_set (writes_of (take g.n (kept_jobs s)))) same
        ∙ ap (λ js. key_set (writes_of (take g.n js))) (kept_whole head.stroke clear)
        ∙ ap (λ n. key_set (writes_of (take n head.stroke.jobs))) count
        ∙ ap (λ js. key_set (writes_of js)) (take_all head.stroke.jobs)

on_paint : (d : Parts) (g : IsGoing d) (s : Stroke) → g.begun.stroke ≡ s → is_paint s.layer (state_of d).base ≡ true
on_paint d g s e = ap (λ (t : Stroke). is_paint t.layer (state_of d).base) (sym e ∙ g.stroke) ∙ ap is_some g.under.was

with_done : State → Archive → Outcome → State
with_done s a o = record s { past = a.past; future = a.future; base = a.base; present = a.present; outcomes = s.outcomes ++ o ∷ []; way = None }

pub finish_step : (d : Parts) (c : Closed) → IsDesk d → MayFinish d c → Step (state_of d) Finish (state_of (after_done d outcome.Done))
unfolding with_done
finish_step d c desk may = record {
  stroke = head.stroke;
  at_head = head.at_head;
  ended = rw head.fate_is refl;
  no_overlap = ap is_some clear;
  all_ended = λ _. (g.way ∙ ap Some count, may.idle);
  new_is =
      ap (λ o. with_done (state_of d) (finished o d.store) outcome.Done) g.begun.way
      ∙ (λ i. record (state_of d) { past = (d.store.base, Part (same i).layer (keys i)) ∷ d.store.past; future = []; base = d.store.present; outcomes = d.queue.outcomes ++ outcome.Done ∷ []; way = None })
      ∙ ap (after_finish (state_of d) head.stroke) (sym (on_paint d g head.stroke same));
}
  where
    w : Whence d c
    w = whence d c desk may

    open w use {head, going as g, same, clear, count, keys}

pub finish_keeps : (d : Parts) (c : Closed) → IsDesk d → MayFinish d c → IsDesk (after_done d outcome.Done)
finish_keeps d c desk may = record {
  sound = step_keeps_sound (state_of d) (state_of (after_done d outcome.Done)) Finish desk.sound (finish_step d c desk may);
  queue = leaves d c outcome.Done desk may.first;
  way = ap (λ o. (finished o d.store).way) (whence d c desk may).going.begun.way;
  slots = desk.slots;
  area = desk.area;
  few = desk.few;
  sides = desk.sides;
}

-- the stroke at the head may finish without effect: it was ended without a conflict, and names no paint layer
pub record MayRefuse (d : Parts) (c : Closed) : Type 0 where
  pub first : slice_get d.queue.left 0 ≡ Some (Whole c)
  pub ended : c.cancelled ≡ false
  pub no_overlap : c.stroke.overlap ≡ None
  pub no_paint : content c.stroke.layer d.store.base ≡ None

pub refuse_step : (d : Parts) (c : Closed) → IsDesk d → MayRefuse d c → Step (state_of d) Finish (state_of (after_outcome d (no_paint_outcome c.stroke.layer d.store.base)))
refuse_step d c desk may = record {
  stroke = head.stroke;
  at_head = head.at_head;
  ended = rw head.fate_is refl;
  no_overlap = ap is_some (ap (λ (f : Fed). f.overlap) head.kept_is ∙ may.no_overlap);
  all_ended = λ t. absurd (never (sym t ∙ not_paint));
  new_is = ap (λ l. record (state_of d) { outcomes = d.queue.outcomes ++ no_paint_outcome l d.store.base ∷ [] }) (sym layer) ∙ ap (after_finish (state_of d) head.stroke) (sym not_paint);
}
  where
    head : IsStrokeHead d Ended c.stroke
    head = subst (λ b. IsStrokeHead d (fate_of b) c.stroke) may.ended (whole_head d c desk may.first)

    layer : head.stroke.layer ≡ c.stroke.layer
    layer = ap (λ (f : Fed). f.layer) head.kept_is

    not_paint : is_paint head.stroke.layer (state_of d).base ≡ false
    not_paint = ap (λ l. is_paint l (state_of d).base) layer ∙ ap is_some may.no_paint

    never : true ≡ false → ⊥
    never e = cc

-- nothing is under way where the stroke at the head names no paint layer
at_rest : (d : Parts) (c : Closed) → IsDesk d → MayRefuse d c → d.way ≡ None
at_rest d c desk may = go d.way refl
  where
    head : IsStrokeHead d Ended c.stroke
    head = subst (λ b. IsStrokeHead d (fate_of b) c.stroke) may.ended (whole_head d c desk may.first)

    some_stroke : (a b : Stroke) → Some a ≡ Some b → a ≡ b
    some_stroke a b e = cc

    never : true ≡ false → ⊥
    never e = cc

    go : (o : Option ℕ) → d.way ≡ o → o ≡ None
    go None e = refl
    go (Some n) e = absurd (never (sym (on_paint d (going d n desk e) head.stroke (some_stroke _ _ (sym (going d n desk e).begun.at_head ∙ head.at_head)))
        ∙ ap (λ (f : Fed). is_paint f.layer d.store.base) head.kept_is ∙ ap is_some may.no_paint))

pub refuse_keeps : (d : Parts) (c : Closed) → IsDesk d → MayRefuse d c → IsDesk (after_outcome d (no_paint_outcome c.stroke.layer d.store.base))
refuse_keeps d c desk may = record {
  sound = step_keeps_sound (state_of d) (state_of new) Finish desk.sound (refuse_step d c desk may);
  queue = leaves d c o desk may.first;
  way = subst (IsWay (state_of new) d.store) (sym e) (subst (IsWay (state_of d) d.store) e desk.way);
  slots = desk.slots;
  area = desk.area;
  few = desk.few;
  sides = desk.sides;
}
  where
    o : Outcome
    o = no_paint_outcome c.stroke.layer d.store.base

    new : Parts
    new = after_outcome d o

    e : d.way ≡ None
    e = at_rest d c desk may

-- the stroke at the head may leave nothing: it was cancelled or has a conflict, and none of its jobs is at work
pub record MayCancel (d : Parts) (c : Closed) (o : Outcome) (g : ℕ) (round : Option Area) : Type 0 where
  pub first : slice_get d.queue.left 0 ≡ Some (Whole c)
  pub refused : (c.cancelled || is_some c.stroke.overlap) ≡ true
  pub idle : no_painter (state_of d) ≡ true
  pub outcome : o ≡ cancel_outcome c.stroke.overlap
  pub group : g ≡ parent_of c.stroke.layer d.store.present
  pub begun : (layer : ℕ) (keys : FinSet key_cmp) → d.store.way ≡ Some (layer, keys) → round ≡ bound_of (set.items keys)
  pub not_begun : d.store.way ≡ None → round ≡ None

-- a set without a key has no item
no_items : set.items (key_set []) ≡ []
no_items = go (set.items (key_set [])) refl
  where
    none : (k : Key) → set.contains (key_set []) k ≡ false
    none k = set.contains-from_list key_cmp_total [] k

    go : (ks : List Key) → set.items (key_set []) ≡ ks → ks ≡ []
    go [] e = refl
    go (k ∷ ks) e =
        let there : set.contains (key_set []) k ≡ true = set.contains-items (key_set []) k ∙ ap (list_any (same_key k)) e ∙ or_left _ _ (key_is k k refl) in
        absurd (never (sym there ∙ none k))
      where
        never : true ≡ false → ⊥
        never e = cc

-- the rectangle round the tiles of the started jobs
round_is : (d : Parts) (c : Closed) (o : Outcome) (g : ℕ) (round : Option Area) → IsDesk d → MayCancel d c o g round → (head : IsStrokeHead d (fate_of c.cancelled) c.stroke)
    → round ≡ bound_of (set.items (key_set (writes_of (started_jobs (state_of d) head.stroke))))
round_is d c o g round desk may head = go d.way refl
  where
    some_stroke : (a b : Stroke) → Some a ≡ Some b → a ≡ b
    some_stroke a b e = cc

    -- the started jobs, by the way
    jobs_by : Option ℕ → Jobs
    jobs_by None = []
    jobs_by (Some n) = take n (kept_jobs head.stroke)

    by : (s : State) (o : Option ℕ) → s.way ≡ o → started_jobs s head.stroke ≡ jobs_by o
    by s None e = ap (λ w. started_jobs (record s { way = w }) head.stroke) e
    by s (Some n) e = ap (λ w. started_jobs (record s { way = w }) head.stroke) e

    go : (w : Option ℕ) → d.way ≡ w → round ≡ bound_of (set.items (key_set (writes_of (started_jobs (state_of d) head.stroke))))
    go None e = may.not_begun (subst (IsWay (state_of d) d.store) e desk.way) ∙ ap bound_of (sym no_items) ∙ ap (λ js. bound_of (set.items (key_set (writes_of js)))) (sym (by (state_of d) None e))
    go (Some n) e =
        may.begun x.begun.stroke.layer x.begun.keys x.begun.way
        ∙ ap (λ ks. bound_of (set.items ks)) (keys_are (kept_jobs x.begun.stroke) (state_of d).slots x.n x.begun.keys x.begun.notes (not_true _ may.idle))
        ∙ ap (λ s. bound_of (set.items (key_set (writes_of (take x.n (kept_jobs s)))))) (some_stroke _ _ (sym x.begun.at_head ∙ head.at_head))
        ∙ ap (λ js. bound_of (set.items (key_set (writes_of js)))) (sym (by (state_of d) (Some x.n) x.way))
      where
        x : IsGoing d
        x = going d n desk e

fate_closed : (b : Bool) → is_closed (record { no = 0; layer = 0; exclusive = false; jobs = []; fate = fate_of b }) ≡ true
fate_closed true = refl
fate_closed false = refl

fate_cancelled : (b : Bool) → is_cancelled (record { no = 0; layer = 0; exclusive = false; jobs = []; fate = fate_of b }) ≡ b
fate_cancelled true = refl
fate_cancelled false = refl

with_all : State → Outcome → ℕ → Option Area → State
with_all s o g r = record s { present = s.base; outcomes = s.outcomes ++ o ∷ []; way = None; updates = updates_with s g r }

pub cancel_step : (d : Parts) (c : Closed) (o : Outcome) (g : ℕ) (round : Option Area) → IsDesk d → MayCancel d c o g round → Step (state_of d) Cancel (state_of (after_revert d o g round))
unfolding with_all
cancel_step d c o g round desk may = record {
  stroke = head.stroke;
  at_head = head.at_head;
  closed = rw head.fate_is (fate_closed c.cancelled);
  refused = rw head.fate_is (ap (λ b. b || is_some (conflict head.stroke.jobs)) (fate_cancelled c.cancelled) ∙ ap (λ o. c.cancelled || is_some o) overlap ∙ may.refused);
  idle = may.idle;
  new_is =
      widened_is round
      ∙ (λ i. with_all (state_of d) (may.outcome i) (may.group i) (round_is d c o g round desk may head i))
      ∙ ap (λ p. with_all (state_of d) (cancel_outcome p) (parent_of c.stroke.layer d.store.present) (bound_of (set.items (key_set (writes_of (started_jobs (state_of d) head.stroke)))))) (sym overlap)
      ∙ ap (λ l. with_all (state_of d) (cancel_outcome (conflict head.stroke.jobs)) (parent_of l d.store.present) (bound_of (set.items (key_set (writes_of (started_jobs (state_of d) head.stroke)))))) (sym layer);
}
  where
    head : IsStrokeHead d (fate_of c.cancelled) c.stroke
    head = whole_head d c desk may.first

    overlap : conflict head.stroke.jobs ≡ c.stroke.overlap
    overlap = ap (λ (f : Fed). f.overlap) head.kept_is

    layer : head.stroke.layer ≡ c.stroke.layer
    layer = ap (λ (f : Fed). f.layer) head.kept_is

    widened_is : (r : Option Area) → state_of (after_revert d o g r) ≡ with_all (state_of d) o g r
    widened_is None = refl
    widened_is (Some a) = ap (λ canvas. record (state_of d) { present = d.store.base; outcomes = d.queue.outcomes ++ o ∷ []; way = None; updates = queued canvas d.updates.patches (Up g) a }) desk.area

pub cancel_keeps : (d : Parts) (c : Closed) (o : Outcome) (g : ℕ) (round : Option Area) → IsDesk d → MayCancel d c o g round → IsDesk (after_revert d o g round)
cancel_keeps d c o g round desk may = record {
  sound = step_keeps_sound (state_of d) (state_of (after_revert d o g round)) Cancel desk.sound (cancel_step d c o g round desk may);
  queue = leaves d c o desk may.first;
  way = refl;
  slots = desk.slots;
  area = same round ∙ desk.area;
  few = desk.few;
  sides = desk.sides;
}
  where
    same : (r : Option Area) → (widened_by d.updates g r).canvas ≡ d.updates.canvas
    same None = refl
    same (Some a) = refl
