-- Every event but Feed leaves fewer, so every run without Feed ends.
use Rattle.std.proofs.Common.{◌≡◌, ℕ, suc, zero, ◌+◌, ◌*◌, ◌<◌, ◌≤◌, Bool, true, false, not, List, [], ◌∷◌, Option, Some, None, length, drop, map, refl, sym, ap, ◌∙◌, arith, subst}
use Rattle.std.specs.Prelude.{slice_get, slice_set, Result, Ok, Err}
use Rattle.std.specs.List.{list_all}
use Rattle.geom_core.proofs.Tests.{and_left, and_right, is_some-None, length_more}
use Rattle.geom_core.specs.Grid.{Key, keys_of, all_keys_of}
use Rattle.doc_model.specs.declared.canvas.Patch.{Patch}
use Rattle.doc_model.specs.declared.job.Kind.{Kind}
use Rattle.doc_model.specs.declared.job.Job.{Job}
use Rattle.doc_model.specs.declared.tree.TreeFault.{TreeFault}
use Rattle.doc_model.specs.declared.command.Outcome.TheVariants.{Done}
use Rattle.doc_model.specs.Jobs.{reads, writes}
use Rattle.doc_model.specs.Shots.{shot_of}
use Rattle.doc_model.specs.Layers.{plain}
use Rattle.doc_model.specs.Changes.{changed}
use Rattle.doc_model.specs.Picture.{Doc, canvas_area}
use Rattle.doc_model.specs.Strokes.{Jobs, Stroke, Entry, Strokes, Changes, Undoes, Redoes, Purges, Exports, entries, conflict}
use Rattle.machine_model.specs.State.{Reach, Whole, Part, Child, State, Slot, Free, Paints, Walks, head, stroke_of, first, waiting}
use Rattle.machine_model.specs.Event.{Event, Feed, Init, Start, Publish, End, Finish, Cancel, Act, WalkStart, WalkPublish, WalkEnd}
use Rattle.machine_model.specs.Groups.{path_of}
use Rattle.machine_model.specs.Guards.{kept_jobs, is_paint}
use Rattle.machine_model.specs.Walks.{shots_of, walk_shot}
use Rattle.machine_model.specs.Effects.{after_entry, after_change, after_undo, after_redo, after_finish, layer_in, moved_to, with_outcome, without_nth}
use Rattle.machine_model.specs.Step.{InitStep, StartStep, PublishStep, EndStep, FinishStep, CancelStep, ActStep, WalkStartStep, WalkPublishStep, WalkEndStep, Step, Run}
use Rattle.machine_model.specs.UnderWay.{IsOnWay}
use Rattle.machine_model.specs.Sound.{IsOrderly}
use Rattle.machine_model.specs.MeaningLaws.{is_feed}
use Rattle.machine_model.specs.Remaining.{patch_events, queue_events, job_left, slot_left, slots_left, jobs_left, entry_left, entries_left, left, pairs_left}
use Rattle.machine_model.specs.EndingLaws.{EventsAreSpent, RunsEnd}
use Rattle.machine_model.proofs.Lists.{each_get}
use Rattle.machine_model.proofs.FeedKeeps.{head_is}
use Rattle.machine_model.proofs.Remainders.{tile_spent, pair_spent, pairs_few, slot_spent}
use Rattle.machine_model.proofs.Bounds.{groups_few, tiles_few}
use Rattle.machine_model.proofs.RunsOrderly.{step_keeps}

-- the queue from its head on
pub queued_from : {A : Type 0} (n : ℕ) (xs : List A) (x : A) → first (drop n xs) ≡ Some x → drop n xs ≡ x ∷ drop (suc n) xs
queued_from zero [] x e = cc
queued_from zero (y ∷ xs) x e = let same : y ≡ x = cc in ap (λ z. z ∷ xs) same
queued_from (suc n) [] x e = cc
queued_from (suc n) (y ∷ xs) x e = queued_from n xs x e

waits_from : (s : State) (e : Entry) → head s ≡ Some e → waiting s ≡ e ∷ drop (suc (length s.outcomes)) (entries s.fed)
waits_from s e h = queued_from (length s.outcomes) (entries s.fed) e h

-- what stands before the head's entry has so much
entries_from : (s : State) (way : Option ℕ) (e : Entry) → head s ≡ Some e → entries_left way (waiting s) ≡ entry_left way e + entries_left None (drop (suc (length s.outcomes)) (entries s.fed))
entries_from s way e h = ap (entries_left way) (waits_from s e h)

-- every entry pays for what waits after it
entry_pays : (way : Option ℕ) (e : Entry) → 1 + queue_events ≤ entry_left way e
entry_pays None (Strokes stroke) = omega arith
entry_pays (Some n) (Strokes stroke) = omega arith
entry_pays None (Changes c) = omega arith
entry_pays None Undoes = omega arith
entry_pays None Redoes = omega arith
entry_pays None (Purges n) = omega arith
entry_pays None Exports = omega arith
entry_pays (Some n) (Changes c) = omega arith
entry_pays (Some n) Undoes = omega arith
entry_pays (Some n) Redoes = omega arith
entry_pays (Some n) (Purges k) = omega arith
entry_pays (Some n) Exports = omega arith

-- the patches that wait at once
updates_few : (us : List Patch) → length us ≤ 64 → patch_events * length us ≤ queue_events
updates_few us h = bounded patch_events (length us) h
  where
    bounded : (a n : ℕ) → n ≤ 64 → a * n ≤ 64 * a
    bounded a n h = grind arith

-- an entry leaves: the slots are as they were, and there are few patches
entry_goes : (old new : State) (e : Entry) → head old ≡ Some e → new.fed ≡ old.fed → length new.outcomes ≡ suc (length old.outcomes) → new.way ≡ None → new.slots ≡ old.slots → length new.updates ≤ 64 → left new < left old
entry_goes old new e at_head fed count way slots few =
    let rest : ℕ = entries_left None (drop (suc (length old.outcomes)) (entries old.fed)) in
    let before : entries_left old.way (waiting old) ≡ entry_left old.way e + rest = entries_from old old.way e at_head in
    let after : entries_left new.way (waiting new) ≡ rest = (λ i. entries_left (way i) (drop (count i) (entries (fed i)))) in
    let pays : 1 + queue_events ≤ entry_left old.way e = entry_pays old.way e in
    let same : slots_left new.slots ≡ slots_left old.slots = ap slots_left slots in
    let us : patch_events * length new.updates ≤ queue_events = updates_few new.updates few in
    numbers _ _ _ _ _ _ _ _ before after pays same us
  where
    numbers : (b a p r s s' u v : ℕ) → b ≡ p + r → a ≡ r → 1 + queue_events ≤ p → s' ≡ s → u ≤ queue_events → a + (s' + u) < b + (s + v)
    numbers b a p r s s' u v f g h i j = omega arith

-- the queue is of its limits afterwards
few_after : (old new : State) (event : Event) → IsOrderly old → Step old event new → length new.updates ≤ 64
few_after old new event sound step = (step_keeps old new event sound step).walking.queue.few

-- where an entry and the slots are on their way, and the patches stay
stays_queued : (e e' s s' u u' : ℕ) → u' ≡ u → e' + s' < e + s → e' + (s' + u') < e + (s + u)
stays_queued e e' s s' u u' f g = omega arith

init_spends : (old new : State) → InitStep old new → left new < left old
init_spends old new step = subst (λ s. left s < left old) (sym step.new_is) (fewer_entries _ _ _ _ _ before after (ap (λ w. entry_left w (Strokes step.stroke)) step.not_begun))
  where
    rest : ℕ
    rest = entries_left None (drop (suc (length old.outcomes)) (entries old.fed))

    at_head : head old ≡ Some (Strokes step.stroke)
    at_head = head_is (head old) step.stroke step.at_head

    before : entries_left old.way (waiting old) ≡ entry_left old.way (Strokes step.stroke) + rest
    before = entries_from old old.way (Strokes step.stroke) at_head

    after : entries_left (Some 0) (waiting old) ≡ (jobs_left step.stroke.jobs + (1 + queue_events)) + rest
    after = entries_from old (Some 0) (Strokes step.stroke) at_head

    fewer_entries : (b a p r s : ℕ) → b ≡ p + r → a ≡ (jobs_left step.stroke.jobs + (1 + queue_events)) + r → p ≡ jobs_left step.stroke.jobs + (2 + queue_events) → a + s < b + s
    fewer_entries b a p r s f g h = omega arith

-- the next job of the list is among those that are left
next_pays : (jobs : Jobs) (n : ℕ) (job : Kind × Job) → slice_get jobs n ≡ Some job → jobs_left (drop n jobs) ≡ (1 + job_left job.1 []) + jobs_left (drop (suc n) jobs)
next_pays [] n job e = cc
next_pays (j ∷ jobs) zero job e = let same : j ≡ job = cc in ap (λ (k : Kind × Job). (1 + job_left k.1 []) + jobs_left jobs) same
next_pays (j ∷ jobs) (suc n) job e = next_pays jobs n job e

start_spends : (old new : State) (place : ℕ) → StartStep old place new → left new < left old
start_spends old new place step = subst (λ s. left s < left old) (sym step.new_is) (numbers _ _ _ _ _ _ _ _ _ before after pays slots)
  where
    rest : ℕ
    rest = entries_left None (drop (suc (length old.outcomes)) (entries old.fed))

    at_head : head old ≡ Some (Strokes step.stroke)
    at_head = head_is (head old) step.stroke step.at_head

    before : entries_left old.way (waiting old) ≡ (jobs_left (drop step.next step.stroke.jobs) + (1 + queue_events)) + rest
    before = ap (λ w. entries_left w (waiting old)) step.begun ∙ entries_from old (Some step.next) (Strokes step.stroke) at_head

    after : entries_left (Some (suc step.next)) (waiting old) ≡ (jobs_left (drop (suc step.next) step.stroke.jobs) + (1 + queue_events)) + rest
    after = entries_from old (Some (suc step.next)) (Strokes step.stroke) at_head

    whole : kept_jobs step.stroke ≡ step.stroke.jobs
    whole = let c : conflict step.stroke.jobs ≡ None = is_some-None (conflict step.stroke.jobs) step.no_overlap in rw c refl

    pays : jobs_left (drop step.next step.stroke.jobs) ≡ (1 + job_left step.job.1 []) + jobs_left (drop (suc step.next) step.stroke.jobs)
    pays = next_pays step.stroke.jobs step.next step.job (ap (λ js. slice_get js step.next) (sym whole) ∙ step.is_next)

    begun : Slot
    begun = Paints (record { serial = old.next; index = step.next; job = step.job.1; shot = shot_of (reads step.job.1) (layer_in step.stroke.layer old.present); published = [] })

    slots : slots_left (slice_set old.slots place begun) + 0 ≡ slots_left old.slots + job_left step.job.1 []
    slots = slot_spent old.slots place Free begun step.free

    numbers : (b a j k w r s s' u : ℕ) → b ≡ (j + (1 + queue_events)) + r → a ≡ (k + (1 + queue_events)) + r → j ≡ (1 + w) + k → s' + 0 ≡ s + w → a + (s' + u) < b + (s + u)
    numbers b a j k w r s s' u f g h i = omega arith

publish_spends : (old new : State) (place : ℕ) (key : Key) → PublishStep old place key new → left new < left old
publish_spends old new place key step = subst (λ s. left s < left old) (sym step.new_is) (numbers _ _ _ _ _ _ slots (tile_spent key step.painter.published (all_keys_of (writes step.painter.job)) step.in_job step.fresh))
  where
    slots : slots_left (slice_set old.slots place (Paints (record step.painter { published = key ∷ step.painter.published }))) + job_left step.painter.job step.painter.published ≡ slots_left old.slots + job_left step.painter.job (key ∷ step.painter.published)
    slots = slot_spent old.slots place (Paints step.painter) _ step.runs

    numbers : (e s s' t t' u : ℕ) → s' + (t + (1 + queue_events)) ≡ s + (t' + (1 + queue_events)) → t' < t → e + (s' + u) < e + (s + u)
    numbers e s s' t t' u f g = omega arith

end_spends : (old new : State) (place : ℕ) → IsOrderly old → EndStep old place new → left new < left old
end_spends old new place sound step = numbers _ _ _ _ _ _ _ same slots updates
  where
    same : entries_left new.way (waiting new) ≡ entries_left old.way (waiting old)
    same = ap (λ s. entries_left s.way (waiting s)) step.new_is

    slots : slots_left new.slots + job_left step.painter.job step.painter.published ≡ slots_left old.slots + 0
    slots = ap (λ s. slots_left s.slots + job_left step.painter.job step.painter.published) step.new_is ∙ slot_spent old.slots place (Paints step.painter) Free step.runs

    updates : patch_events * length new.updates ≤ queue_events
    updates = updates_few new.updates (few_after old new (End place) sound step)

    numbers : (e e' s s' t u u' : ℕ) → e' ≡ e → s' + (t + (1 + queue_events)) ≡ s + 0 → u' ≤ queue_events → e' + (s' + u') < e + (s + u)
    numbers e e' s s' t u u' f g h = omega arith

finish_spends : (old new : State) → IsOrderly old → FinishStep old new → left new < left old
finish_spends old new sound step = go (is_paint step.stroke.layer old.base) refl step.new_is
  where
    at_head : head old ≡ Some (Strokes step.stroke)
    at_head = head_is (head old) step.stroke step.at_head

    not_begun : (w : Option ℕ) → IsOnWay old w → is_paint step.stroke.layer old.base ≡ false → w ≡ None
    not_begun None rest no_layer = refl
    not_begun (Some n) way no_layer =
        let one : way.stroke ≡ step.stroke = (let e : Some way.stroke ≡ Some step.stroke = sym way.at_head ∙ step.at_head in cc) in
        let there : is_paint way.stroke.layer old.base ≡ true = rw way.was refl in
        absurd (let f : true ≡ false = sym there ∙ ap (λ (t : Stroke). is_paint t.layer old.base) one ∙ no_layer in cc)

    go : (b : Bool) → is_paint step.stroke.layer old.base ≡ b → new ≡ after_finish old step.stroke b → left new < left old
    go false no_layer e = entry_goes old new (Strokes step.stroke) at_head (ap (λ (s : State). s.fed) e) (ap (λ (s : State). length s.outcomes) e ∙ length_more old.outcomes _) (ap (λ (s : State). s.way) e ∙ not_begun old.way sound.on_way no_layer) (ap (λ (s : State). s.slots) e) (few_after old new Finish sound step)
    go true layer e = entry_goes old new (Strokes step.stroke) at_head (ap (λ (s : State). s.fed) e) (ap (λ (s : State). length s.outcomes) e ∙ length_more old.outcomes _) (ap (λ (s : State). s.way) e) (ap (λ (s : State). s.slots) e) (few_after old new Finish sound step)

cancel_spends : (old new : State) → IsOrderly old → CancelStep old new → left new < left old
cancel_spends old new sound step = entry_goes old new (Strokes step.stroke) (head_is (head old) step.stroke step.at_head)
    (ap (λ (s : State). s.fed) step.new_is) (ap (λ (s : State). length s.outcomes) step.new_is ∙ length_more old.outcomes _)
    (ap (λ (s : State). s.way) step.new_is) (ap (λ (s : State). s.slots) step.new_is) (few_after old new Cancel sound step)

-- what an entry that takes effect leaves: one more outcome, and what stays
record Leaves (old new : State) : Type 0 where
  fed : new.fed ≡ old.fed
  count : length new.outcomes ≡ suc (length old.outcomes)
  way : new.way ≡ old.way
  slots : new.slots ≡ old.slots

moves : (old mid : State) (d : Doc) (r : Reach) → Leaves old mid → Leaves old (moved_to mid d r)
moves old mid d Whole h = record { fed = h.fed; count = h.count; way = h.way; slots = h.slots }
moves old mid d (Part id keys) h = record { fed = h.fed; count = h.count; way = h.way; slots = h.slots }

change_leaves : (s : State) (r : Result Doc TreeFault) → Leaves s (after_change s r)
change_leaves s (Ok doc) = record { fed = refl; count = length_more s.outcomes _; way = refl; slots = refl }
change_leaves s (Err fault) = record { fed = refl; count = length_more s.outcomes _; way = refl; slots = refl }

undo_leaves : (s : State) (past : List (Doc × Reach)) → Leaves s (after_undo s past)
undo_leaves s [] = record { fed = refl; count = length_more s.outcomes _; way = refl; slots = refl }
undo_leaves s (e ∷ past) = moves s (record (with_outcome s Done) { past = past; future = (s.base, e.1) ∷ s.future }) e.0 e.1 (record { fed = refl; count = length_more s.outcomes _; way = refl; slots = refl })

redo_leaves : (s : State) (future : List (Doc × Reach)) → Leaves s (after_redo s future)
redo_leaves s [] = record { fed = refl; count = length_more s.outcomes _; way = refl; slots = refl }
redo_leaves s (e ∷ future) = moves s (record (with_outcome s Done) { past = (s.base, e.1) ∷ s.past; future = future }) e.0 e.1 (record { fed = refl; count = length_more s.outcomes _; way = refl; slots = refl })

entry_leaves : (s : State) (e : Entry) → stroke_of (Some e) ≡ None → Leaves s (after_entry s e)
entry_leaves s (Strokes stroke) h = cc
entry_leaves s (Changes change) h = change_leaves s (changed plain change s.base)
entry_leaves s Undoes h = undo_leaves s s.past
entry_leaves s Redoes h = redo_leaves s s.future
entry_leaves s (Purges n) h = record { fed = refl; count = length_more s.outcomes _; way = refl; slots = refl }
entry_leaves s Exports h = record { fed = refl; count = length_more s.outcomes _; way = refl; slots = refl }

act_spends : (old new : State) → IsOrderly old → ActStep old new → left new < left old
act_spends old new sound step = entry_goes old new step.entry step.at_head left_as.fed left_as.count (left_as.way ∙ at_rest old.way sound.on_way) left_as.slots (few_after old new Act sound step)
  where
    left_as : Leaves old new
    left_as = subst (Leaves old) (sym step.new_is) (entry_leaves old step.entry (ap stroke_of (sym step.at_head) ∙ step.no_stroke))

    at_rest : (w : Option ℕ) → IsOnWay old w → w ≡ None
    at_rest None rest = refl
    at_rest (Some n) way = absurd (let f : Some way.stroke ≡ None = sym way.at_head ∙ step.no_stroke in cc)

-- the list without one of its items
without_one : {A : Type 0} (xs : List A) (i : ℕ) (x : A) → slice_get xs i ≡ Some x → length xs ≡ suc (length (without_nth xs i))
without_one [] i x e = cc
without_one (y ∷ xs) zero x e = refl
without_one (y ∷ xs) (suc i) x e = ap suc (without_one xs i x e)

shot_groups : (s : State) (p : Patch) (gs : List ℕ) → map (λ (e : ℕ × List Child). e.0) (shots_of s p.rect gs) ≡ gs
shot_groups s p [] = refl
shot_groups s p (g ∷ gs) = ap (λ hs. g ∷ hs) (shot_groups s p gs)

limited : (n g k : ℕ) → n ≤ g * k → g ≤ 257 → k ≤ 16 → 2 + n ≤ 2 + 257 * 16
limited n g k a b c = grind arith

-- a patch pays for the pairs of its walk
patch_pays : (fresh g k : ℕ) {n : ℕ} → fresh ≡ n → n ≤ g * k → g ≤ 257 → k ≤ 16 → 2 + fresh ≤ patch_events
unfolding patch_events
patch_pays fresh g k same few groups tiles = limited fresh g k (subst (λ m. m ≤ g * k) (sym same) few) groups tiles

walk_start_spends : (old new : State) (place : ℕ) (patch : Patch) → IsOrderly old → WalkStartStep old place patch new → left new < left old
walk_start_spends old new place patch sound step = subst (λ s. left s < left old) (sym step.new_is) (numbers _ _ _ _ _ _ slots pairs updates)
  where
    groups : List ℕ
    groups = path_of patch.walk old.present

    fresh : ℕ
    fresh = pairs_left [] (keys_of patch.rect) (map (λ (e : ℕ × List Child). e.0) (walk_shot old patch))

    pairs : 2 + fresh ≤ patch_events
    pairs = patch_pays _ (length groups) (length (keys_of patch.rect))
        (ap (pairs_left [] (keys_of patch.rect)) (shot_groups old patch groups))
        (pairs_few [] (keys_of patch.rect) groups)
        (groups_few old sound patch.walk)
        (tiles_few (canvas_area old.canvas) patch (each_get _ old.updates step.i patch step.waits sound.walking.queue.places))

    begun : Slot
    begun = Walks (record { serial = old.next; patch = patch; shot = walk_shot old patch; published = [] })

    slots : slots_left (slice_set old.slots place begun) + 0 ≡ slots_left old.slots + (fresh + 1)
    slots = slot_spent old.slots place Free begun step.free

    updates : patch_events * length old.updates ≡ patch_events + patch_events * length (without_nth old.updates step.i)
    updates = ap (λ n. patch_events * n) (without_one old.updates step.i patch step.waits) ∙ one_more patch_events _
      where
        one_more : (a n : ℕ) → a * suc n ≡ a + a * n
        one_more a n = omega arith

    numbers : (e s s' f u u' : ℕ) → s' + 0 ≡ s + (f + 1) → 2 + f ≤ patch_events → u ≡ patch_events + u' → e + (s' + u') < e + (s + u)
    numbers e s s' f u u' a b c = omega arith

walk_publish_spends : (old new : State) (place g : ℕ) (key : Key) → WalkPublishStep old place g key new → left new < left old
walk_publish_spends old new place g key step = subst (λ s. left s < left old) (sym step.new_is) (numbers _ _ _ _ _ _ slots (pair_spent g key step.walker.published (keys_of step.walker.patch.rect) (map (λ (e : ℕ × List Child). e.0) step.walker.shot) step.on_path step.in_patch step.fresh))
  where
    slots : slots_left (slice_set old.slots place (Walks (record step.walker { published = (g, key) ∷ step.walker.published }))) + slot_left (Walks step.walker) ≡ slots_left old.slots + slot_left (Walks (record step.walker { published = (g, key) ∷ step.walker.published }))
    slots = slot_spent old.slots place (Walks step.walker) _ step.runs

    numbers : (e s s' t t' u : ℕ) → s' + (t + 1) ≡ s + (t' + 1) → t' < t → e + (s' + u) < e + (s + u)
    numbers e s s' t t' u f h = omega arith

walk_end_spends : (old new : State) (place : ℕ) → WalkEndStep old place new → left new < left old
walk_end_spends old new place step = subst (λ s. left s < left old) (sym step.new_is) (numbers _ _ _ _ _ (slot_spent old.slots place (Walks step.walker) Free step.runs))
  where
    numbers : (e s s' t u : ℕ) → s' + (t + 1) ≡ s + 0 → e + (s' + u) < e + (s + u)
    numbers e s s' t u f = omega arith

pub events_are_spent : EventsAreSpent
events_are_spent old new (Feed c) sound step other = cc
events_are_spent old new Init sound step other = init_spends old new step
events_are_spent old new (Start place) sound step other = start_spends old new place step
events_are_spent old new (Publish place key) sound step other = publish_spends old new place key step
events_are_spent old new (End place) sound step other = end_spends old new place sound step
events_are_spent old new Finish sound step other = finish_spends old new sound step
events_are_spent old new Cancel sound step other = cancel_spends old new sound step
events_are_spent old new Act sound step other = act_spends old new sound step
events_are_spent old new (WalkStart place patch) sound step other = walk_start_spends old new place patch sound step
events_are_spent old new (WalkPublish place g key) sound step other = walk_publish_spends old new place g key step
events_are_spent old new (WalkEnd place) sound step other = walk_end_spends old new place step

-- with what is left at its end
pub spent : (events : List Event) (old new : State) → IsOrderly old → Run old events new → list_all (λ e. not (is_feed e)) events ≡ true → length events + left new ≤ left old
spent [] old new sound run others = let e : left new ≡ left old = ap left run in omega arith
spent (e ∷ events) old new sound run others =
    let one : left run.0 < left old = events_are_spent old run.0 e sound run.1 (not_fed (is_feed e) (and_left _ _ others)) in
    let more : length events + left new ≤ left run.0 = spent events run.0 new (step_keeps old run.0 e sound run.1) run.2 (and_right (not (is_feed e)) _ others) in
    omega arith
  where
    not_fed : (b : Bool) → not b ≡ true → b ≡ false
    not_fed true h = cc
    not_fed false h = refl

pub runs_end : RunsEnd
runs_end events old new sound run others = let h : length events + left new ≤ left old = spent events old new sound run others in omega arith
