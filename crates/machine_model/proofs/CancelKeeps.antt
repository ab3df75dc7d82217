-- A stroke that is cancelled keeps the machine orderly.
use Rattle.std.proofs.Common.{◌≡◌, ℕ, suc, ◌+◌, ◌*◌, ◌≤◌, true, false, ◌||◌, [], ◌∷◌, ◌++◌, Option, Some, None, length, refl, sym, ap, ◌∙◌, arith, subst}
use Rattle.std.specs.List.{AllByRecursion}
use Rattle.std.specs.FinSet as set
use Rattle.geom_core.specs.Areas.{Area}
use Rattle.geom_core.specs.Grid.{key_set}
use Rattle.doc_model.specs.declared.canvas.Walk.TheVariants.{Up}
use Rattle.doc_model.specs.declared.canvas.Patch.{Patch}
use Rattle.doc_model.specs.Picture.{Doc, canvas_area}
use Rattle.doc_model.specs.Feeding.{is_closed_entry}
use Rattle.doc_model.specs.Strokes.{Stroke, Fate, Open, Ended, Cancelled, Strokes, conflict}
use Rattle.doc_model.specs.Meaning.{Story, told_stroke, closed_stroke, ends_with}
use Rattle.doc_model.specs.Queues.{IsQueue}
use Rattle.doc_model.proofs.Patches.{queued_right}
use Rattle.doc_model.proofs.QueuedWalks.{queued_each}
use Rattle.doc_model.proofs.SameContent.{with_same}
use Rattle.machine_model.specs.State.{State, head, head_stroke}
use Rattle.machine_model.specs.Settled.{story}
use Rattle.machine_model.specs.Groups.{parent_of}
use Rattle.machine_model.specs.Guards.{is_closed, is_cancelled, overlaps, is_exclusive, kept_jobs}
use Rattle.machine_model.specs.Effects.{updates_with, bound_of, writes_of, started_jobs, cancel_outcome}
use Rattle.machine_model.specs.Step.{CancelStep}
use Rattle.machine_model.specs.UnderWay.{IsOnWay}
use Rattle.machine_model.specs.Walking.{IsGroupOf}
use Rattle.machine_model.specs.Counted.{painters, ended, ended_jobs}
use Rattle.machine_model.specs.Sound.{IsOrderly}
use Rattle.machine_model.proofs.StateTrees.{base_distinct}
use Rattle.machine_model.proofs.FeedKeeps.{head_is, not_begun}
use Rattle.machine_model.proofs.Stories.{told_more}
use Rattle.machine_model.proofs.WalksStand.{SameShape, shape_same, shape_with, all_stand, groups_stand}
use Rattle.machine_model.proofs.SlotChanges.{ended_few}
use Rattle.machine_model.proofs.LeavingCounts.{jobs_left, kept_few}
use Rattle.machine_model.proofs.JobKeeps.{parent_stands}
use Rattle.geom_core.proofs.Tests.{length_more}

-- one rectangle or none is queued
pub bound_right : (s : State) (g : ℕ) (o : Option Area) → IsQueue (canvas_area s.canvas) s.updates → IsQueue (canvas_area s.canvas) (updates_with s g o)
bound_right s g None q = q
bound_right s g (Some rect) q = queued_right (canvas_area s.canvas) s.updates (Up g) rect q

-- each patch is of a group still
pub bound_groups : (s : State) (doc : Doc) (g : ℕ) (o : Option Area) → IsGroupOf doc (Up g) → AllByRecursion (λ (p : Patch). IsGroupOf doc p.walk) s.updates → AllByRecursion (λ (p : Patch). IsGroupOf doc p.walk) (updates_with s g o)
bound_groups s doc g None new h = h
bound_groups s doc g (Some rect) new h = queued_each (IsGroupOf doc) (canvas_area s.canvas) s.updates (Up g) rect new tt h

closed_is : (stroke : Stroke) → is_closed stroke ≡ true → is_closed_entry (Strokes stroke) ≡ true
closed_is stroke e = go stroke.fate refl
  where
    go : (f : Fate) → stroke.fate ≡ f → is_closed_entry (Strokes stroke) ≡ true
    go Ended h = rw h refl
    go Cancelled h = rw h refl
    go Open h = absurd (let t : false ≡ true = rw h at e in cc)

-- what a stroke that is cancelled or overlaps means
refused_told : (s : Story) (stroke : Stroke) → (is_cancelled stroke || overlaps stroke) ≡ true → told_stroke s stroke (conflict stroke.jobs) ≡ ends_with s (cancel_outcome (conflict stroke.jobs))
refused_told s stroke refused = go (conflict stroke.jobs) refl
  where
    last : (f : Fate) → stroke.fate ≡ f → conflict stroke.jobs ≡ None → closed_stroke s stroke stroke.fate ≡ ends_with s (cancel_outcome None)
    last Cancelled h n = ap (closed_stroke s stroke) h
    last Open h n = absurd (let t : false ≡ true = rw (h, n) at refused in cc)
    last Ended h n = absurd (let t : false ≡ true = rw (h, n) at refused in cc)

    go : (o : Option (ℕ × ℕ)) → conflict stroke.jobs ≡ o → told_stroke s stroke o ≡ ends_with s (cancel_outcome o)
    go (Some pair) e = refl
    go None e = last stroke.fate refl e

-- a cancel keeps the machine orderly
pub cancel_keeps : (old new : State) → IsOrderly old → CancelStep old new → IsOrderly new
cancel_keeps old new sound step = subst IsOrderly (sym step.new_is) (record {
  told = told_more old next (Strokes step.stroke) sound.told is_head (closed_is step.stroke step.closed) refl refl (sym (refused_told (story old) step.stroke step.refused));
  reached = record { past = sound.reached.past; future = sound.reached.future };
  on_way = record { same = refl; idle = step.idle };
  walking = record {
    queue = right;
    apart = sound.walking.apart;
    groups = groups_stand old next shape _ (bound_groups old old.present (parent_of step.stroke.layer old.present) rect (parent_stands step.stroke.layer old.present) sound.walking.groups);
    walks = all_stand old next shape old.slots sound.walking.walks;
    alone = λ e. (let f : is_exclusive (head_stroke next) None ≡ false = not_begun (head_stroke next) in cc);
  };
  counted = record {
    canvas = sound.counted.canvas;
    slots = sound.counted.slots;
    below = sound.counted.below;
    differ = sound.counted.differ;
    own = sound.counted.own;
    budget = budget old.next (length old.updates) _ _ (length step.stroke.jobs) _ _ (painters old.slots) _ _ sound.counted.budget right.few (jobs_left old (Strokes step.stroke) (cancel_outcome (conflict step.stroke.jobs)) is_head) (length_more old.outcomes (cancel_outcome (conflict step.stroke.jobs))) all_ended;
  };
})
  where
    rect : Option Area
    rect = bound_of (set.items (key_set (writes_of (started_jobs old step.stroke))))

    next : State
    next = record old {
      present = old.base;
      outcomes = old.outcomes ++ cancel_outcome (conflict step.stroke.jobs) ∷ [];
      way = None;
      updates = updates_with old (parent_of step.stroke.layer old.present) (bound_of (set.items (key_set (writes_of (started_jobs old step.stroke)))));
    }

    is_head : head old ≡ Some (Strokes step.stroke)
    is_head = head_is (head old) step.stroke step.at_head

    right : IsQueue (canvas_area old.canvas) (updates_with old (parent_of step.stroke.layer old.present) rect)
    right = bound_right old (parent_of step.stroke.layer old.present) rect sound.walking.queue

    shape : SameShape old next
    shape = go old.way sound.on_way
      where
        go : (w : Option ℕ) → IsOnWay old w → SameShape old next
        go None rest = shape_same old next (sym rest.same)
        go (Some n) way = shape_with old next way.stroke.layer way.layer way.base_layer old.base way.is (sym (with_same way.stroke.layer way.base_layer old.base (base_distinct old sound.told) way.was))

    all_ended : ended_jobs old.slots old.way ≤ length step.stroke.jobs
    all_ended = go old.way sound.on_way
      where
        go : (w : Option ℕ) → IsOnWay old w → ended_jobs old.slots w ≤ length step.stroke.jobs
        go None rest = omega arith
        go (Some n) way =
            let same : Some way.stroke ≡ Some step.stroke = sym way.at_head ∙ step.at_head in
            let one : way.stroke ≡ step.stroke = cc in
            let few : n ≤ length (kept_jobs step.stroke) = subst (λ (t : Stroke). n ≤ length (kept_jobs t)) one way.few in
            let there : length (kept_jobs step.stroke) ≤ length step.stroke.jobs = kept_few step.stroke.jobs in
            let e : ended old.slots n ≤ n = ended_few old.slots n in
            omega arith

    budget : (k l l' j x j' e p o o' : ℕ) → k + l ≤ ((65 * j + 65 * e) + p) + 64 * o → l' ≤ 64 → j' ≡ j + x → o' ≡ suc o → e ≤ x → k + l' ≤ ((65 * j' + 65 * 0) + p) + 64 * o'
    budget k l l' j x j' e p o o' b c f g h = omega arith
