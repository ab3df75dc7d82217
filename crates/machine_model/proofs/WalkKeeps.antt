-- A walk that starts, publishes or ends keeps the machine orderly.
use Rattle.std.proofs.Common.{◌≡◌, ℕ, suc, zero, ◌+◌, ◌*◌, ◌≤◌, Bool, true, false, not, List, [], ◌∷◌, Some, length, refl, sym, ap, ◌∙◌, arith, subst}
use Rattle.std.specs.Prelude.{slice_get, slice_set}
use Rattle.std.specs.List.{list_any, list_all, AllByRecursion}
use Rattle.geom_core.proofs.Tests.{and_left, and_right, both_true, not_true}
use Rattle.geom_core.specs.Areas.{Area}
use Rattle.std.specs.FinMap as map
use Rattle.doc_model.specs.Layers.{painted}
use Rattle.doc_model.specs.Shots.{in_tile}
use Rattle.machine_model.specs.Walks.{walk_value, walk_shot}
use Rattle.machine_model.specs.Groups.{cache, path_of}
use Rattle.geom_core.specs.Grid.{Key}
use Rattle.doc_model.specs.declared.canvas.Patch.{Patch}
use Rattle.doc_model.specs.Picture.{canvas_area}
use Rattle.doc_model.specs.Queues.{IsQueue, in_place, alike, all_unlike}
use Rattle.machine_model.specs.State.{State, Free, Walks, Walker, head_stroke}
use Rattle.machine_model.specs.Slots.{is_walker}
use Rattle.machine_model.specs.Guards.{is_exclusive}
use Rattle.machine_model.specs.Effects.{without_nth}
use Rattle.machine_model.specs.Step.{WalkStartStep, WalkPublishStep, WalkEndStep}
use Rattle.machine_model.specs.Walking.{IsGroupOf, WalkStands}
use Rattle.machine_model.specs.Counted.{SerialBelow, PublishedOwn}
use Rattle.machine_model.specs.Sound.{IsOrderly}
use Rattle.machine_model.proofs.Lists.{all_set, all_get}
use Rattle.machine_model.proofs.SlotChanges.{length_set, no_walkers_freed, nobody_walks, apart_set, apart_same, clear_unless_walks, clear_where_avoids, differ_set, differ_same, other_free, other_new, below_more}
use Rattle.machine_model.proofs.WalksStand.{shape_same, all_stand, shot_groups, shot_children}
use Rattle.machine_model.proofs.BesideStroke.{Beside, on_way_beside, same_count, same_ended}

-- one item less
all_less : {A : Type 0} (P : A → Type 0) (xs : List A) (i : ℕ) → AllByRecursion P xs → AllByRecursion P (without_nth xs i)
all_less P [] zero h = tt
all_less P [] (suc i) h = tt
all_less P (x ∷ xs) zero h = h.1
all_less P (x ∷ xs) (suc i) h = (h.0, all_less P xs i h.1)

each_less : {A : Type 0} (test : A → Bool) (xs : List A) (i : ℕ) → list_all test xs ≡ true → list_all test (without_nth xs i) ≡ true
each_less test [] zero h = refl
each_less test [] (suc i) h = refl
each_less test (x ∷ xs) zero h = and_right (test x) _ h
each_less test (x ∷ xs) (suc i) h = both_true _ _ (and_left (test x) _ h) (each_less test xs i (and_right (test x) _ h))

unlike_less : (ps : List Patch) (i : ℕ) → all_unlike ps ≡ true → all_unlike (without_nth ps i) ≡ true
unlike_less [] zero h = refl
unlike_less [] (suc i) h = refl
unlike_less (p ∷ ps) zero h = and_right (list_all (λ q. not (alike p q)) ps) _ h
unlike_less (p ∷ ps) (suc i) h = both_true _ _ (each_less (λ q. not (alike p q)) ps i (and_left (list_all (λ q. not (alike p q)) ps) _ h)) (unlike_less ps i (and_right (list_all (λ q. not (alike p q)) ps) _ h))

length_less : {A : Type 0} (xs : List A) (i : ℕ) (x : A) → slice_get xs i ≡ Some x → suc (length (without_nth xs i)) ≡ length xs
length_less [] i x h = cc
length_less (y ∷ xs) zero x h = refl
length_less (y ∷ xs) (suc i) x h = ap suc (length_less xs i x h)

queue_less : (canvas : Area) (ps : List Patch) (i : ℕ) (p : Patch) → slice_get ps i ≡ Some p → IsQueue canvas ps → IsQueue canvas (without_nth ps i)
queue_less canvas ps i p h q = record {
  places = each_less (in_place canvas) ps i q.places;
  unlike = unlike_less ps i q.unlike;
  few = (let e : suc (length (without_nth ps i)) ≡ length ps = length_less ps i p h in let f : length ps ≤ 64 = q.few in omega arith);
}

-- the start of a walk keeps the machine orderly
pub walk_start_keeps : (old new : State) (place : ℕ) (patch : Patch) → IsOrderly old → WalkStartStep old place patch new → IsOrderly new
walk_start_keeps old new place patch sound step = subst IsOrderly (sym step.new_is) (record {
  told = record { lawful = sound.told.lawful; closed = sound.told.closed; few = sound.told.few; means = sound.told.means };
  reached = record { past = sound.reached.past; future = sound.reached.future };
  on_way = on_way_beside old next old.way beside sound.on_way;
  walking = record {
    queue = queue_less (canvas_area old.canvas) old.updates step.i patch step.waits sound.walking.queue;
    apart = apart_set old.slots place (Walks walker) (clear_where_avoids walker old.slots step.avoids) sound.walking.apart;
    groups = all_less (λ (p : Patch). IsGroupOf old.present p.walk) old.updates step.i sound.walking.groups;
    walks = all_set (WalkStands next) old.slots place (Walks walker) (all_stand old next (shape_same old next refl) old.slots sound.walking.walks)
        (all_get (λ (p : Patch). IsGroupOf old.present p.walk) old.updates step.i patch sound.walking.groups step.waits, shot_groups old patch.rect (path_of patch.walk old.present), shot_children old patch.rect (path_of patch.walk old.present));
    alone = λ e. (let f : is_exclusive (head_stroke old) old.way ≡ false = step.not_exclusive in cc);
  };
  counted = record {
    canvas = sound.counted.canvas;
    slots = subst (λ n. (1 ≤ n) × (n ≤ 17)) (sym (length_set old.slots place (Walks walker))) sound.counted.slots;
    below = all_set (SerialBelow (suc old.next)) old.slots place (Walks walker) (below_more old.next old.slots sound.counted.below) (omega arith);
    differ = differ_set old.slots place (Walks walker) (other_new old.next (Walks walker) old.slots refl sound.counted.below) sound.counted.differ;
    own = all_set PublishedOwn old.slots place (Walks walker) sound.counted.own (refl, tt);
    budget = (let e : suc (length (without_nth old.updates step.i)) ≡ length old.updates = length_less old.updates step.i patch step.waits in budget old.next (length old.updates) _ _ _ _ _ _ e sound.counted.budget (same_ended old next old.way beside) (same_count old next beside));
  };
})
  where
    walker : Walker
    walker = record { serial = old.next; patch = patch; shot = walk_shot old patch; published = [] }

    next : State
    next = record old { updates = without_nth old.updates step.i; next = suc old.next; slots = slice_set old.slots place (Walks walker) }

    beside : Beside old next
    beside = record { head = refl; base = refl; present = refl; place = place; was = Free; now = Walks walker; stood = step.free; slots = refl; idle = refl; idle_now = refl }

    budget : (n l m j e e' p p' : ℕ) → suc m ≡ l → n + l ≤ ((65 * j + 65 * e) + p) + 64 * length old.outcomes → e' ≡ e → p' ≡ p → suc n + m ≤ ((65 * j + 65 * e') + p') + 64 * length old.outcomes
    budget n l m j e e' p p' h b f g = omega arith

-- a publish of a walk keeps it orderly
pub walk_publish_keeps : (old new : State) (place g : ℕ) (key : Key) → IsOrderly old → WalkPublishStep old place g key new → IsOrderly new
walk_publish_keeps old new place g key sound step = subst IsOrderly (sym step.new_is) (record {
  told = record { lawful = sound.told.lawful; closed = sound.told.closed; few = sound.told.few; means = sound.told.means };
  reached = record { past = sound.reached.past; future = sound.reached.future };
  on_way = on_way_beside old next old.way beside sound.on_way;
  walking = record {
    queue = sound.walking.queue;
    apart = apart_same old.slots place step.walker walker step.runs refl ∙ sound.walking.apart;
    groups = sound.walking.groups;
    walks = all_set (WalkStands next) old.slots place (Walks walker) (all_stand old next (shape_same old next refl) old.slots sound.walking.walks) here;
    alone = λ e. absurd (nobody_walks old.slots place step.walker (not_true (list_any is_walker old.slots) (sound.walking.alone e)) step.runs);
  };
  counted = record {
    canvas = sound.counted.canvas;
    slots = subst (λ n. (1 ≤ n) × (n ≤ 17)) (sym (length_set old.slots place (Walks walker))) sound.counted.slots;
    below = all_set (SerialBelow old.next) old.slots place (Walks walker) sound.counted.below (all_get (SerialBelow old.next) old.slots place (Walks step.walker) sound.counted.below step.runs);
    differ = differ_same old.slots place (Walks step.walker) (Walks walker) step.runs refl sound.counted.differ;
    own = all_set PublishedOwn old.slots place (Walks walker) sound.counted.own (both_true _ _ (ap not step.fresh) own.0, ((step.on_path, step.in_patch), own.1));
    budget = rw (same_ended old next old.way beside, same_count old next beside) sound.counted.budget;
  };
})
  where
    walker : Walker
    walker = record step.walker { published = (g, key) ∷ step.walker.published }

    next : State
    next = record old {
      caches = map.insert old.caches g (painted (step.walker.patch.rect ∷ []) (in_tile key) (walk_value step.walker.shot g) (cache old.caches g));
      slots = slice_set old.slots place (Walks walker);
    }

    beside : Beside old next
    beside = record { head = refl; base = refl; present = refl; place = place; was = Walks step.walker; now = Walks walker; stood = step.runs; slots = refl; idle = refl; idle_now = refl }

    own : PublishedOwn (Walks step.walker)
    own = all_get PublishedOwn old.slots place (Walks step.walker) sound.counted.own step.runs

    here : WalkStands next (Walks walker)
    here = all_get (WalkStands next) old.slots place (Walks step.walker) (all_stand old next (shape_same old next refl) old.slots sound.walking.walks) step.runs

-- the end of a walk keeps it orderly
pub walk_end_keeps : (old new : State) (place : ℕ) → IsOrderly old → WalkEndStep old place new → IsOrderly new
walk_end_keeps old new place sound step = subst IsOrderly (sym step.new_is) (record {
  told = record { lawful = sound.told.lawful; closed = sound.told.closed; few = sound.told.few; means = sound.told.means };
  reached = record { past = sound.reached.past; future = sound.reached.future };
  on_way = on_way_beside old next old.way beside sound.on_way;
  walking = record {
    queue = sound.walking.queue;
    apart = apart_set old.slots place Free (clear_unless_walks Free old.slots refl) sound.walking.apart;
    groups = sound.walking.groups;
    walks = all_set (WalkStands next) old.slots place Free (all_stand old next (shape_same old next refl) old.slots sound.walking.walks) tt;
    alone = λ e. ap not (no_walkers_freed old.slots place (not_true (list_any is_walker old.slots) (sound.walking.alone e)));
  };
  counted = record {
    canvas = sound.counted.canvas;
    slots = subst (λ n. (1 ≤ n) × (n ≤ 17)) (sym (length_set old.slots place Free)) sound.counted.slots;
    below = all_set (SerialBelow old.next) old.slots place Free sound.counted.below tt;
    differ = differ_set old.slots place Free (other_free old.slots) sound.counted.differ;
    own = all_set PublishedOwn old.slots place Free sound.counted.own tt;
    budget = rw (same_ended old next old.way beside, same_count old next beside) sound.counted.budget;
  };
})
  where
    next : State
    next = record old { slots = slice_set old.slots place Free }

    beside : Beside old next
    beside = record { head = refl; base = refl; present = refl; place = place; was = Walks step.walker; now = Free; stood = step.runs; slots = refl; idle = refl; idle_now = refl }
