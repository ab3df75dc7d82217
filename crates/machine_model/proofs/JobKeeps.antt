-- A job that starts, publishes a tile or ends keeps the machine orderly.
use Rattle.std.proofs.Common.{◌≡◌, ◌≢◌, ℕ, suc, zero, ◌+◌, ◌*◌, ◌<◌, ◌≤◌, Bool, true, false, not, cond, List, [], ◌∷◌, Option, Some, None, is_some, length, refl, sym, ap, ◌∙◌, arith, eqb, subst}
use Rattle.std.specs.Prelude.{slice_get, slice_set}
use Rattle.std.specs.List.{list_any, AllByRecursion}
use Rattle.std.proofs.lemmas.Bool.Decides.{nat_tests}
use Rattle.geom_core.proofs.Tests.{taken, kept, both_true, not_true}
use Rattle.geom_core.specs.Areas.{Area}
use Rattle.geom_core.specs.Grid.{Key}
use Rattle.doc_model.specs.declared.canvas.Walk.TheVariants.{Up}
use Rattle.doc_model.specs.declared.canvas.Patch.{Patch}
use Rattle.doc_model.specs.Jobs.{reads, writes}
use Rattle.doc_model.specs.Shots.{shot_of, published}
use Rattle.doc_model.specs.Forest.{with_content}
use Rattle.doc_model.specs.Readers.{parent}
use Rattle.doc_model.specs.Adjusting.{adjusted}
use Rattle.doc_model.specs.Picture.{Doc, canvas_area}
use Rattle.doc_model.specs.Strokes.{Stroke}
use Rattle.doc_model.specs.Updates.{queued}
use Rattle.doc_model.specs.Queues.{IsQueue}
use Rattle.doc_model.proofs.Patches.{queued_right}
use Rattle.doc_model.proofs.QueuedWalks.{queued_each}
use Rattle.doc_model.proofs.Shapes.{parent_is_group}
use Rattle.machine_model.specs.State.{State, Painter, Slot, Free, Paints, Walks, head_stroke}
use Rattle.machine_model.specs.Slots.{is_painter, is_walker}
use Rattle.machine_model.specs.Painters.{painter_in, runs_in}
use Rattle.machine_model.specs.Groups.{parent_of}
use Rattle.machine_model.specs.Guards.{kept_jobs, is_exclusive}
use Rattle.machine_model.specs.Effects.{layer_in, updates_with_all}
use Rattle.machine_model.specs.Step.{StartStep, PublishStep, EndStep}
use Rattle.machine_model.specs.UnderWay.{SlotIsStarted, UnderWay, IsOnWay}
use Rattle.machine_model.specs.Walking.{IsGroupOf, WalkStands}
use Rattle.machine_model.specs.Counted.{SerialBelow, PublishedOwn, ended, ended_jobs}
use Rattle.machine_model.specs.Sound.{IsOrderly}
use Rattle.machine_model.proofs.Lists.{all_set, all_get}
use Rattle.machine_model.proofs.SlotPainters.{painter-filled, painter-set, painter-freed, runs_found}
use Rattle.machine_model.proofs.SlotChanges.{length_set, any_beside, apart_set, clear_unless_walks, differ_set, differ_same, other_free, other_new, below_more, painters_set, ended_same, ended_more}
use Rattle.machine_model.proofs.WalksStand.{shape_same, shape_with, all_stand, groups_stand, SameShape}
use Rattle.machine_model.proofs.StartWay.{way_after_start, not_started}
use Rattle.machine_model.proofs.PublishWay.{way_after_publish}
use Rattle.machine_model.proofs.EndWay.{way_after_end}
use Rattle.std.specs.Option.{unwrap_or}

-- where a job is at work a stroke is under way
pub painting : (s : State) (place : ℕ) (w : Painter) → slice_get s.slots place ≡ Some (Paints w) → (o : Option ℕ) → IsOnWay s o → (n : ℕ) × (o ≡ Some n) × UnderWay s n
painting s place w runs None rest = absurd (nobody s.slots place (not_true _ rest.idle) runs)
  where
    nobody : (slots : List Slot) (i : ℕ) → list_any is_painter slots ≡ false → slice_get slots i ≡ Some (Paints w) → ⊥
    nobody [] i h e = cc
    nobody (Free ∷ slots) zero h e = cc
    nobody (Walks v ∷ slots) zero h e = cc
    nobody (Paints v ∷ slots) i h e = cc
    nobody (Free ∷ slots) (suc i) h e = nobody slots i h e
    nobody (Walks v ∷ slots) (suc i) h e = nobody slots i h e
painting s place w runs (Some n) way = (n, refl, way)

-- to be under way with more or fewer jobs started is as exclusive
as_exclusive : (o : Option Stroke) (n m : ℕ) → is_exclusive o (Some n) ≡ is_exclusive o (Some m)
as_exclusive None n m = refl
as_exclusive (Some s) n m = refl

-- a start keeps the machine orderly
pub start_keeps : (old new : State) (place : ℕ) → IsOrderly old → StartStep old place new → IsOrderly new
start_keeps old new place sound step = subst IsOrderly (sym step.new_is) (record {
  told = record { lawful = sound.told.lawful; closed = sound.told.closed; few = sound.told.few; means = sound.told.means };
  reached = record { past = sound.reached.past; future = sound.reached.future };
  on_way = subst (λ s. UnderWay s (suc n)) step.new_is (way_after_start old new place n step step.begun way);
  walking = record {
    queue = sound.walking.queue;
    apart = apart_set old.slots place (Paints w) (clear_unless_walks (Paints w) old.slots refl) sound.walking.apart;
    groups = sound.walking.groups;
    walks = all_set (WalkStands next) old.slots place (Paints w) (all_stand old next (shape_same old next refl) old.slots sound.walking.walks) tt;
    alone = λ e. ap not (any_beside is_walker old.slots place Free (Paints w) step.free refl refl)
        ∙ sound.walking.alone (ap (is_exclusive (head_stroke old)) step.begun ∙ as_exclusive (head_stroke old) n (suc n) ∙ e);
  };
  counted = record {
    canvas = sound.counted.canvas;
    slots = subst (λ k. (1 ≤ k) × (k ≤ 17)) (sym (length_set old.slots place (Paints w))) sound.counted.slots;
    below = all_set (SerialBelow (suc old.next)) old.slots place (Paints w) (below_more old.next old.slots sound.counted.below) (omega arith);
    differ = differ_set old.slots place (Paints w) (other_new old.next (Paints w) old.slots refl sound.counted.below) sound.counted.differ;
    own = all_set PublishedOwn old.slots place (Paints w) sound.counted.own (refl, tt);
    budget = budget old.next (length old.updates) _ _ _ _ _ (64 * length old.outcomes) sound.counted.budget ended_is (painters_set old.slots place Free (Paints w) step.free);
  };
})
  where
    n : ℕ
    n = step.next

    way : UnderWay old n
    way = subst (IsOnWay old) step.begun sound.on_way

    w : Painter
    w = record { serial = old.next; index = n; job = step.job.1; shot = shot_of (reads step.job.1) (layer_in step.stroke.layer old.present); published = [] }

    slots' : List Slot
    slots' = slice_set old.slots place (Paints w)

    next : State
    next = record old { way = Some (suc n); next = suc old.next; slots = slice_set old.slots place (Paints w) }

    painters_are : (q : ℕ) → painter_in q slots' ≡ cond (eqb n q) (Some w) (painter_in q old.slots)
    painters_are q = painter-filled old.slots place w q step.free (not_started (kept_jobs way.stroke) n old.slots way.started)

    runs_now : runs_in n slots' ≡ true
    runs_now = ap is_some (painters_are n ∙ taken (eqb n n) _ _ (grind (arith, nat_tests)))

    runs_before : (i : ℕ) → i < n → runs_in i slots' ≡ runs_in i old.slots
    runs_before i h = ap is_some (painters_are i ∙ kept (eqb n i) _ _ (grind (arith, nat_tests)))

    ended_is : ended slots' (suc n) ≡ ended_jobs old.slots old.way
    ended_is = one (runs_in n slots') runs_now ∙ ended_same old.slots slots' n runs_before ∙ sym (ap (ended_jobs old.slots) step.begun)
      where
        one : (b : Bool) → b ≡ true → cond {A = ℕ} b 0 1 + ended slots' n ≡ ended slots' n
        one true e = omega arith
        one false e = cc

    budget : (k l j e e' p p' o : ℕ) → k + l ≤ ((65 * j + 65 * e) + p) + o → e' ≡ e → p' + 0 ≡ p + 1 → suc k + l ≤ ((65 * j + 65 * e') + p') + o
    budget k l j e e' p p' o b f g = omega arith

-- a publish keeps the machine orderly
pub publish_keeps : (old new : State) (place : ℕ) (key : Key) → IsOrderly old → PublishStep old place key new → IsOrderly new
publish_keeps old new place key sound step = go (painting old place step.painter step.runs old.way sound.on_way)
  where
    w : Painter
    w = record step.painter { published = key ∷ step.painter.published }

    next : State
    next = record old { present = adjusted step.stroke.layer (published step.painter.job step.painter.shot key) old.present; slots = slice_set old.slots place (Paints w) }

    own : PublishedOwn (Paints step.painter)
    own = all_get PublishedOwn old.slots place (Paints step.painter) sound.counted.own step.runs

    go : (n : ℕ) × (old.way ≡ Some n) × UnderWay old n → IsOrderly new
    go t = subst IsOrderly (sym step.new_is) (record {
      told = record { lawful = sound.told.lawful; closed = sound.told.closed; few = sound.told.few; means = sound.told.means };
      reached = record { past = sound.reached.past; future = sound.reached.future };
      on_way = subst (IsOnWay next) (sym t.1) way';
      walking = record {
        queue = sound.walking.queue;
        apart = apart_set old.slots place (Paints w) (clear_unless_walks (Paints w) old.slots refl) sound.walking.apart;
        groups = groups_stand old next shape old.updates sound.walking.groups;
        walks = all_set (WalkStands next) old.slots place (Paints w) (all_stand old next shape old.slots sound.walking.walks) tt;
        alone = λ e. ap not (any_beside is_walker old.slots place (Paints step.painter) (Paints w) step.runs refl refl) ∙ sound.walking.alone e;
      };
      counted = record {
        canvas = sound.counted.canvas;
        slots = subst (λ k. (1 ≤ k) × (k ≤ 17)) (sym (length_set old.slots place (Paints w))) sound.counted.slots;
        below = all_set (SerialBelow old.next) old.slots place (Paints w) sound.counted.below (all_get (SerialBelow old.next) old.slots place (Paints step.painter) sound.counted.below step.runs);
        differ = differ_same old.slots place (Paints step.painter) (Paints w) step.runs refl sound.counted.differ;
        own = all_set PublishedOwn old.slots place (Paints w) sound.counted.own (both_true _ _ (ap not step.fresh) own.0, (step.in_job, own.1));
        budget = budget old.next (length old.updates) _ _ _ _ _ (64 * length old.outcomes) sound.counted.budget ended_is (painters_set old.slots place (Paints step.painter) (Paints w) step.runs);
      };
    })
      where
        way : UnderWay old t.0
        way = t.2

        way' : UnderWay next t.0
        way' = subst (λ s. UnderWay s t.0) step.new_is (way_after_publish old new place key t.0 step way)

        same_stroke : way'.stroke ≡ way.stroke
        same_stroke = let e : Some way'.stroke ≡ Some way.stroke = sym way'.at_head ∙ way.at_head in cc

        shape : SameShape old next
        shape = shape_with old next way.stroke.layer way.layer way'.layer old.base way.is (way'.is ∙ ap (λ (s : Stroke). with_content s.layer way'.layer old.base) same_stroke)

        painters_are : (q : ℕ) → painter_in q (slice_set old.slots place (Paints w)) ≡ cond (eqb step.painter.index q) (Some w) (painter_in q old.slots)
        painters_are q = painter-set old.slots place step.painter w q step.runs refl way.once

        runs_same : (i : ℕ) → runs_in i (slice_set old.slots place (Paints w)) ≡ runs_in i old.slots
        runs_same i = ap is_some (painters_are i) ∙ pick (eqb step.painter.index i) refl
          where
            pick : (b : Bool) → eqb step.painter.index i ≡ b → is_some (cond b (Some w) (painter_in i old.slots)) ≡ runs_in i old.slots
            pick true e = let same : step.painter.index ≡ i = grind (arith, nat_tests) in sym (ap (λ q. runs_in q old.slots) (sym same) ∙ runs_found old.slots place step.painter step.runs way.once)
            pick false e = refl

        ended_is : ended_jobs (slice_set old.slots place (Paints w)) old.way ≡ ended_jobs old.slots old.way
        ended_is = each old.way
          where
            each : (o : Option ℕ) → ended_jobs (slice_set old.slots place (Paints w)) o ≡ ended_jobs old.slots o
            each None = refl
            each (Some m) = ended_same old.slots (slice_set old.slots place (Paints w)) m (λ i h. runs_same i)

        budget : (k l j e e' p p' o : ℕ) → k + l ≤ ((65 * j + 65 * e) + p) + o → e' ≡ e → p' + 1 ≡ p + 1 → k + l ≤ ((65 * j + 65 * e') + p') + o
        budget k l j e e' p p' o b f g = omega arith

-- each rectangle that is queued
all_queued : (canvas : Area) (g : ℕ) (rects : List Area) (ps : List Patch) → IsQueue canvas ps → IsQueue canvas (updates_with_all canvas g rects ps)
all_queued canvas g [] ps q = q
all_queued canvas g (r ∷ rects) ps q = all_queued canvas g rects (queued canvas ps (Up g) r) (queued_right canvas ps (Up g) r q)

all_groups : (canvas : Area) (doc : Doc) (g : ℕ) (rects : List Area) (ps : List Patch) → IsGroupOf doc (Up g) → AllByRecursion (λ (p : Patch). IsGroupOf doc p.walk) ps → AllByRecursion (λ (p : Patch). IsGroupOf doc p.walk) (updates_with_all canvas g rects ps)
all_groups canvas doc g [] ps new h = h
all_groups canvas doc g (r ∷ rects) ps new h = all_groups canvas doc g rects (queued canvas ps (Up g) r) new (queued_each (IsGroupOf doc) canvas ps (Up g) r new tt h)

-- the group round a layer is one of the document
pub parent_stands : (id : ℕ) (doc : Doc) → IsGroupOf doc (Up (parent_of id doc))
parent_stands id doc = go (parent id 0 doc) refl
  where
    go : (o : Option ℕ) → parent id 0 doc ≡ o → IsGroupOf doc (Up (unwrap_or o 0))
    go None e = refl
    go (Some g) e = parent_is_group id 0 g doc e

-- an end keeps the machine orderly
pub end_keeps : (old new : State) (place : ℕ) → IsOrderly old → EndStep old place new → IsOrderly new
end_keeps old new place sound step = go (painting old place step.painter step.runs old.way sound.on_way)
  where
    updates : List Patch
    updates = updates_with_all (canvas_area old.canvas) (parent_of step.stroke.layer old.present) (writes step.painter.job) old.updates

    slots' : List Slot
    slots' = slice_set old.slots place Free

    next : State
    next = record old { slots = slice_set old.slots place Free; updates = updates_with_all (canvas_area old.canvas) (parent_of step.stroke.layer old.present) (writes step.painter.job) old.updates }

    right : IsQueue (canvas_area old.canvas) updates
    right = all_queued (canvas_area old.canvas) (parent_of step.stroke.layer old.present) (writes step.painter.job) old.updates sound.walking.queue

    go : (n : ℕ) × (old.way ≡ Some n) × UnderWay old n → IsOrderly new
    go t = subst IsOrderly (sym step.new_is) (record {
      told = record { lawful = sound.told.lawful; closed = sound.told.closed; few = sound.told.few; means = sound.told.means };
      reached = record { past = sound.reached.past; future = sound.reached.future };
      on_way = subst (IsOnWay next) (sym t.1) (subst (λ s. UnderWay s t.0) step.new_is (way_after_end old new place t.0 step way));
      walking = record {
        queue = right;
        apart = apart_set old.slots place Free (clear_unless_walks Free old.slots refl) sound.walking.apart;
        groups = all_groups (canvas_area old.canvas) old.present (parent_of step.stroke.layer old.present) (writes step.painter.job) old.updates (parent_stands step.stroke.layer old.present) sound.walking.groups;
        walks = all_set (WalkStands next) old.slots place Free (all_stand old next (shape_same old next refl) old.slots sound.walking.walks) tt;
        alone = λ e. ap not (any_beside is_walker old.slots place (Paints step.painter) Free step.runs refl refl) ∙ sound.walking.alone e;
      };
      counted = record {
        canvas = sound.counted.canvas;
        slots = subst (λ k. (1 ≤ k) × (k ≤ 17)) (sym (length_set old.slots place Free)) sound.counted.slots;
        below = all_set (SerialBelow old.next) old.slots place Free sound.counted.below tt;
        differ = differ_set old.slots place Free (other_free old.slots) sound.counted.differ;
        own = all_set PublishedOwn old.slots place Free sound.counted.own tt;
        budget = budget old.next (length old.updates) (length updates) _ _ _ _ _ (64 * length old.outcomes) sound.counted.budget right.few ended_is (painters_set old.slots place (Paints step.painter) Free step.runs);
      };
    })
      where
        way : UnderWay old t.0
        way = t.2

        here : SlotIsStarted (kept_jobs way.stroke) t.0 (Paints step.painter)
        here = all_get (SlotIsStarted (kept_jobs way.stroke) t.0) old.slots place (Paints step.painter) way.started step.runs

        painters_are : (q : ℕ) → painter_in q slots' ≡ cond (eqb step.painter.index q) None (painter_in q old.slots)
        painters_are q = painter-freed old.slots place step.painter q step.runs way.once

        gone : runs_in step.painter.index slots' ≡ false
        gone = ap is_some (painters_are step.painter.index ∙ taken (eqb step.painter.index step.painter.index) _ _ (grind (arith, nat_tests)))

        others : (i : ℕ) → i ≢ step.painter.index → runs_in i slots' ≡ runs_in i old.slots
        others i h = ap is_some (painters_are i ∙ kept (eqb step.painter.index i) _ _ (apart step.painter.index i h))
          where
            apart : (a b : ℕ) → b ≢ a → eqb a b ≡ false
            apart a b h = grind (arith, nat_tests)

        ended_is : ended_jobs slots' old.way ≡ suc (ended_jobs old.slots old.way)
        ended_is = ap (ended_jobs slots') t.1
            ∙ ended_more old.slots slots' t.0 step.painter.index here.0 (runs_found old.slots place step.painter step.runs way.once) gone others
            ∙ sym (ap (λ o. suc (ended_jobs old.slots o)) t.1)

        budget : (k l l' j e e' p p' o : ℕ) → k + l ≤ ((65 * j + 65 * e) + p) + o → l' ≤ 64 → e' ≡ suc e → p' + 1 ≡ p + 0 → k + l' ≤ ((65 * j + 65 * e') + p') + o
        budget k l l' j e e' p p' o b f g h = omega arith
