-- An entry that is no stroke keeps the machine orderly.
use Rattle.std.proofs.Common.{◌≡◌, ℕ, suc, zero, ◌+◌, ◌*◌, ◌≤◌, true, false, ◌&&◌, not, List, [], ◌∷◌, Option, Some, None, length, take, map, refl, sym, ap, ◌∙◌, arith, subst}
use Rattle.std.specs.Prelude.{Result, Ok, Err, pos, int_lt, ◌+ℤ◌}
use Rattle.std.specs.List.{list_any, AllByRecursion}
use Rattle.std.specs.FinSet as set
use Rattle.std.specs.FinSet.{FinSet}
use borrow.Author.Differences.{ints}
use Rattle.geom_core.proofs.Tests.{not_true, both_true}
use Rattle.geom_core.specs.Areas.{meets}
use Rattle.geom_core.specs.Grid.{key_cmp}
use Rattle.doc_model.specs.declared.canvas.Canvas.{Canvas}
use Rattle.doc_model.specs.declared.command.Outcome.{Outcome}
use Rattle.doc_model.specs.declared.command.Outcome.TheVariants as outcome
use Rattle.doc_model.specs.declared.tree.TreeFault.{TreeFault}
use Rattle.doc_model.specs.declared.canvas.Patch.{Patch}
use Rattle.doc_model.specs.Layers.{Layer, plain}
use Rattle.doc_model.specs.Forest.{content, with_content}
use Rattle.doc_model.specs.Picture.{Doc, canvas_area}
use Rattle.doc_model.specs.Changes.{changed}
use Rattle.doc_model.specs.Feeding.{is_closed_entry}
use Rattle.doc_model.specs.Strokes.{Entry, Strokes, Changes, Undoes, Redoes, Purges, Exports}
use Rattle.doc_model.specs.Updates.{refreshed}
use Rattle.doc_model.specs.Queues.{IsQueue}
use Rattle.doc_model.proofs.Patches.{refreshed_right}
use Rattle.doc_model.proofs.QueuedWalks.{refreshed_whole}
use Rattle.doc_model.proofs.SameContent.{with_same}
use Rattle.doc_model.proofs.Weights.{tree_distinct}
use Rattle.doc_model.specs.Ids.{IsTree}
use Rattle.doc_model.proofs.TreeChanges.{TreeStory}
use Rattle.machine_model.specs.State.{Reach, Whole, Part, State, Slot, head, head_stroke, stroke_of}
use Rattle.machine_model.specs.Settled.{story}
use Rattle.machine_model.specs.Slots.{is_walker, is_painter}
use Rattle.machine_model.specs.Groups.{parent_of}
use Rattle.machine_model.specs.Guards.{is_exclusive}
use Rattle.machine_model.specs.Effects.{updates_with, bound_of, moved_to, with_outcome, after_entry, after_change, after_undo, after_redo}
use Rattle.machine_model.specs.Step.{ActStep}
use Rattle.machine_model.specs.Reached.{PastReaches, FutureReaches, Reached}
use Rattle.machine_model.specs.UnderWay.{AtRest, UnderWay, IsOnWay}
use Rattle.machine_model.specs.Walking.{IsGroupOf, all_apart}
use Rattle.machine_model.specs.Counted.{painters, ended_jobs, PublishedOwn, SerialBelow, SerialsDiffer}
use Rattle.doc_model.specs.Canvases.{IsOfLimits}
use Rattle.machine_model.specs.Sound.{IsOrderly}
use Rattle.machine_model.proofs.Lists.{all_map}
use Rattle.machine_model.proofs.StateTrees.{trees}
use Rattle.machine_model.proofs.FeedKeeps.{not_begun}
use Rattle.doc_model.proofs.DoneLaws.{one_outcome}
use Rattle.machine_model.proofs.Stories.{IsPlain, story_acts, told_more}
use Rattle.machine_model.proofs.WalksStand.{none_stand, group_with}
use Rattle.machine_model.proofs.LeavingCounts.{jobs_of, jobs_left_any}
use Rattle.machine_model.proofs.JobKeeps.{parent_stands}
use Rattle.machine_model.proofs.CancelKeeps.{bound_right, bound_groups}
use Rattle.doc_model.specs.Meaning.{Story, told}

-- each patch is of a group of the document
abbrev GroupsOf : Doc → List Patch → Type 0
GroupsOf doc ps = AllByRecursion (λ (p : Patch). IsGroupOf doc p.walk) ps

-- what an entry leaves as it is, and what it keeps right
record Acted (s t : State) : Type 0 where
  fed : t.fed ≡ s.fed
  canvas : t.canvas ≡ s.canvas
  slots : t.slots ≡ s.slots
  next : t.next ≡ s.next
  way : t.way ≡ s.way
  same : t.present ≡ t.base
  queue : IsQueue (canvas_area s.canvas) t.updates
  groups : GroupsOf t.present t.updates
  reached : Reached t

-- of a state at rest
record Rests (s : State) : Type 0 where
  same : s.present ≡ s.base
  trees : TreeStory (story s)
  canvas : IsOfLimits s.canvas
  queue : IsQueue (canvas_area s.canvas) s.updates
  groups : GroupsOf s.present s.updates
  reached : Reached s

tells_acted : (s : State) (o : Outcome) → Rests s → Acted s (with_outcome s o)
tells_acted s o r = record {
  fed = refl;
  canvas = refl;
  slots = refl;
  next = refl;
  way = refl;
  same = refl;
  queue = r.queue;
  groups = subst (λ d. GroupsOf d s.updates) r.same r.groups;
  reached = record { past = r.reached.past; future = r.reached.future };
}

canvas_meets : (c : Canvas) → IsOfLimits c → meets (canvas_area c) (canvas_area c) ≡ true
canvas_meets c l = both_true _ _ (one c.w l.w.0) (one c.h l.h.0)
  where
    one : (n : ℕ) → 1 ≤ n → (int_lt (pos 0) (pos 0 +ℤ pos n) && int_lt (pos 0) (pos 0 +ℤ pos n)) ≡ true
    one n h = grind (arith, ints)

-- the document moves over the reach Whole
whole_acted : (s t : State) (new : Doc) → t.fed ≡ s.fed → t.canvas ≡ s.canvas → t.slots ≡ s.slots → t.next ≡ s.next → t.way ≡ s.way → t.updates ≡ s.updates → Rests s → Reached (moved_to t new Whole) → Acted s (moved_to t new Whole)
whole_acted s t new fed canvas slots next way updates r reached = record {
  fed = fed;
  canvas = canvas;
  slots = slots;
  next = next;
  way = way;
  same = refl;
  queue = subst (λ c. IsQueue (canvas_area s.canvas) (refreshed (canvas_area c) t.updates (canvas_area c))) (sym canvas) (refreshed_right (canvas_area s.canvas) t.updates (canvas_area s.canvas) (subst (IsQueue (canvas_area s.canvas)) (sym updates) r.queue));
  groups = refreshed_whole (IsGroupOf new) (canvas_area t.canvas) t.updates (canvas_area t.canvas) (canvas_meets t.canvas (subst IsOfLimits (sym canvas) r.canvas)) tt;
  reached = reached;
}

-- the document moves over a stroke's reach
part_acted : (s t : State) (new : Doc) (id : ℕ) (keys : FinSet key_cmp) → t.fed ≡ s.fed → t.canvas ≡ s.canvas → t.slots ≡ s.slots → t.next ≡ s.next → t.way ≡ s.way → t.updates ≡ s.updates → Rests s → GroupsOf new s.updates → Reached (moved_to t new (Part id keys)) → Acted s (moved_to t new (Part id keys))
part_acted s t new id keys fed canvas slots next way updates r groups reached = record {
  fed = fed;
  canvas = canvas;
  slots = slots;
  next = next;
  way = way;
  same = refl;
  queue = subst (λ c. IsQueue (canvas_area c) (updates_with t (parent_of id new) (bound_of (set.items keys)))) canvas (bound_right t (parent_of id new) (bound_of (set.items keys)) (subst (λ c. IsQueue (canvas_area c) t.updates) (sym canvas) (subst (IsQueue (canvas_area s.canvas)) (sym updates) r.queue)));
  groups = bound_groups t new (parent_of id new) (bound_of (set.items keys)) (parent_stands id new) (subst (GroupsOf new) (sym updates) groups);
  reached = reached;
}

-- neighbours over a stroke's reach have the same groups
groups_back : (id : ℕ) (a b : Layer) (old new : Doc) (ps : List Patch) → IsTree old → content id old ≡ Some a → new ≡ with_content id b old → GroupsOf new ps → GroupsOf old ps
groups_back id a b old new ps tree was is h = all_map (λ (p : Patch). IsGroupOf new p.walk) (λ (p : Patch). IsGroupOf old p.walk) ps
    (λ p k. subst (λ d. IsGroupOf d p.walk) (with_same id a old (tree_distinct old tree) was) (group_with p.walk id b a old (subst (λ d. IsGroupOf d p.walk) is k))) h

groups_forth : (id : ℕ) (a b : Layer) (old new : Doc) (ps : List Patch) → IsTree old → content id old ≡ Some a → new ≡ with_content id b old → GroupsOf old ps → GroupsOf new ps
groups_forth id a b old new ps tree was is h = all_map (λ (p : Patch). IsGroupOf old p.walk) (λ (p : Patch). IsGroupOf new p.walk) ps
    (λ p k. subst (λ d. IsGroupOf d p.walk) (sym is) (group_with p.walk id a b old (subst (λ d. IsGroupOf d p.walk) (sym (with_same id a old (tree_distinct old tree) was)) k))) h

change_acted : (s : State) (r : Result Doc TreeFault) → Rests s → Acted s (after_change s r)
change_acted s (Err fault) r = tells_acted s (outcome.Tree fault) r
change_acted s (Ok new) r = whole_acted s (record (with_outcome s outcome.Done) { past = (s.base, Whole) ∷ s.past; future = [] }) new refl refl refl refl refl refl r (record { past = (tt, r.reached.past); future = tt })

undo_over : (s : State) (doc : Doc) (reach : Reach) (past : List (Doc × Reach)) → s.past ≡ (doc, reach) ∷ past → Rests s → Acted s (moved_to (record (with_outcome s outcome.Done) { past = past; future = (s.base, reach) ∷ s.future }) doc reach)
undo_over s doc Whole past e r = whole_acted s (record (with_outcome s outcome.Done) { past = past; future = (s.base, Whole) ∷ s.future }) doc refl refl refl refl refl refl r
    (record { past = (subst (λ ps. PastReaches ps s.base) e r.reached.past).1; future = (tt, r.reached.future) })
undo_over s doc (Part id keys) past e r =
    let near : PastReaches ((doc, Part id keys) ∷ past) s.base = subst (λ ps. PastReaches ps s.base) e r.reached.past in
    let tree : AllByRecursion (IsTree {A = Layer}) (map (λ (e : Doc × Reach). e.0) ((doc, Part id keys) ∷ past)) = subst (λ ps. AllByRecursion (IsTree {A = Layer}) (map (λ (e : Doc × Reach). e.0) ps)) e r.trees.past in
    part_acted s (record (with_outcome s outcome.Done) { past = past; future = (s.base, Part id keys) ∷ s.future }) doc id keys refl refl refl refl refl refl r
    (groups_back id near.0.before near.0.after doc s.base s.updates tree.0 near.0.was near.0.changed (subst (λ d. GroupsOf d s.updates) r.same r.groups))
    (record { past = near.1; future = (near.0, r.reached.future) })

undo_acted : (s : State) (past : List (Doc × Reach)) → s.past ≡ past → Rests s → Acted s (after_undo s past)
undo_acted s [] e r = tells_acted s outcome.NothingToUndo r
undo_acted s (d ∷ past) e r = undo_over s d.0 d.1 past e r

redo_over : (s : State) (doc : Doc) (reach : Reach) (future : List (Doc × Reach)) → s.future ≡ (doc, reach) ∷ future → Rests s → Acted s (moved_to (record (with_outcome s outcome.Done) { past = (s.base, reach) ∷ s.past; future = future }) doc reach)
redo_over s doc Whole future e r = whole_acted s (record (with_outcome s outcome.Done) { past = (s.base, Whole) ∷ s.past; future = future }) doc refl refl refl refl refl refl r
    (record { past = (tt, r.reached.past); future = (subst (FutureReaches s.base) e r.reached.future).1 })
redo_over s doc (Part id keys) future e r =
    let near : FutureReaches s.base ((doc, Part id keys) ∷ future) = subst (FutureReaches s.base) e r.reached.future in
    part_acted s (record (with_outcome s outcome.Done) { past = (s.base, Part id keys) ∷ s.past; future = future }) doc id keys refl refl refl refl refl refl r
    (groups_forth id near.0.before near.0.after s.base doc s.updates r.trees.document near.0.was near.0.changed (subst (λ d. GroupsOf d s.updates) r.same r.groups))
    (record { past = (near.0, r.reached.past); future = near.1 })

redo_acted : (s : State) (future : List (Doc × Reach)) → s.future ≡ future → Rests s → Acted s (after_redo s future)
redo_acted s [] e r = tells_acted s outcome.NothingToRedo r
redo_acted s (d ∷ future) e r = redo_over s d.0 d.1 future e r

past_taken : (n : ℕ) (past : List (Doc × Reach)) (now : Doc) → PastReaches past now → PastReaches (take n past) now
past_taken zero past now h = tt
past_taken (suc n) [] now h = tt
past_taken (suc n) (e ∷ past) now h = (h.0, past_taken n past e.0 h.1)

acted : (s : State) (e : Entry) → IsPlain e → Rests s → Acted s (after_entry s e)
acted s (Strokes stroke) p r = absurd p
acted s (Changes change) p r = change_acted s (changed plain change s.base) r
acted s Undoes p r = undo_acted s s.past refl r
acted s Redoes p r = redo_acted s s.future refl r
acted s (Purges n) p r = record {
  fed = refl;
  canvas = refl;
  slots = refl;
  next = refl;
  way = refl;
  same = refl;
  queue = r.queue;
  groups = subst (λ d. GroupsOf d s.updates) r.same r.groups;
  reached = record { past = past_taken n s.past s.base r.reached.past; future = r.reached.future };
}
acted s Exports p r = record {
  fed = refl;
  canvas = refl;
  slots = refl;
  next = refl;
  way = refl;
  same = refl;
  queue = r.queue;
  groups = subst (λ d. GroupsOf d s.updates) r.same r.groups;
  reached = record { past = r.reached.past; future = r.reached.future };
}

plain_head : (o : Option Entry) (e : Entry) → o ≡ Some e → stroke_of o ≡ None → IsPlain e
plain_head None e h n = cc
plain_head (Some (Strokes s)) e h n = cc
plain_head (Some (Changes c)) e h n = subst IsPlain (let same : Changes c ≡ e = cc in same) tt
plain_head (Some Undoes) e h n = subst IsPlain (let same : Undoes ≡ e = cc in same) tt
plain_head (Some Redoes) e h n = subst IsPlain (let same : Redoes ≡ e = cc in same) tt
plain_head (Some (Purges k)) e h n = subst IsPlain (let same : Purges k ≡ e = cc in same) tt
plain_head (Some Exports) e h n = subst IsPlain (let same : Exports ≡ e = cc in same) tt

plain_closed : (e : Entry) → IsPlain e → is_closed_entry e ≡ true
plain_closed (Strokes s) p = absurd p
plain_closed (Changes c) p = refl
plain_closed Undoes p = refl
plain_closed Redoes p = refl
plain_closed (Purges n) p = refl
plain_closed Exports p = refl

-- an act keeps the machine orderly
pub act_keeps : (old new : State) → IsOrderly old → ActStep old new → IsOrderly new
act_keeps old new sound step = subst IsOrderly (sym step.new_is) (record {
  told = told_more old next step.entry sound.told step.at_head (plain_closed step.entry plain_entry) a.fed a.canvas means;
  reached = a.reached;
  on_way = subst (IsOnWay next) (sym (a.way ∙ begun)) (record { same = a.same; idle = ap (λ (slots : List Slot). not (list_any is_painter slots)) a.slots ∙ rest.idle });
  walking = record {
    queue = subst (λ c. IsQueue (canvas_area c) next.updates) (sym a.canvas) a.queue;
    apart = ap all_apart a.slots ∙ sound.walking.apart;
    groups = a.groups;
    walks = none_stand next next.slots (ap (list_any is_walker) a.slots ∙ not_true _ step.no_walks);
    alone = λ e. (let f : is_exclusive (head_stroke next) next.way ≡ false = ap (is_exclusive (head_stroke next)) (a.way ∙ begun) ∙ not_begun (head_stroke next) in cc);
  };
  counted = record {
    canvas = subst IsOfLimits (sym a.canvas) sound.counted.canvas;
    slots = subst (λ (slots : List Slot). (1 ≤ length slots) × (length slots ≤ 17)) (sym a.slots) sound.counted.slots;
    below = subst (λ n. AllByRecursion (SerialBelow n) next.slots) (sym a.next) (subst (AllByRecursion (SerialBelow old.next)) (sym a.slots) sound.counted.below);
    differ = subst SerialsDiffer (sym a.slots) sound.counted.differ;
    own = subst (AllByRecursion PublishedOwn) (sym a.slots) sound.counted.own;
    budget = budget old.next (length old.updates) next.next (length next.updates) _ _ (jobs_of step.entry) (ended_jobs old.slots old.way) _ (painters old.slots) _ _ _ sound.counted.budget a.next a.queue.few
        (jobs_left_any old next step.entry step.at_head a.fed count) ended_is (ap painters a.slots) count;
  };
})
  where
    next : State
    next = after_entry old step.entry

    begun : old.way ≡ None
    begun = go old.way refl
      where
        go : (w : Option ℕ) → old.way ≡ w → w ≡ None
        go None e = refl
        go (Some n) e = let way : UnderWay old n = subst (IsOnWay old) e sound.on_way in absurd (let f : None ≡ Some way.stroke = sym step.no_stroke ∙ way.at_head in cc)

    rest : AtRest old
    rest = subst (IsOnWay old) begun sound.on_way

    plain_entry : IsPlain step.entry
    plain_entry = plain_head (head old) step.entry step.at_head step.no_stroke

    a : Acted old next
    a = acted old step.entry plain_entry (record { same = rest.same; trees = trees old sound.told; canvas = sound.counted.canvas; queue = sound.walking.queue; groups = sound.walking.groups; reached = sound.reached })

    means : story next ≡ told old.canvas (story old) step.entry
    means = story_acts old step.entry plain_entry

    count : length next.outcomes ≡ suc (length old.outcomes)
    count = ap (λ (s : Story). length s.outcomes) means ∙ one_outcome old.canvas (story old) step.entry

    ended_is : ended_jobs next.slots next.way ≡ ended_jobs old.slots old.way
    ended_is = λ i. ended_jobs (a.slots i) (a.way i)

    budget : (k l k' l' j j' x e e' p p' o o' : ℕ) → k + l ≤ ((65 * j + 65 * e) + p) + 64 * o → k' ≡ k → l' ≤ 64 → j' ≡ j + x → e' ≡ e → p' ≡ p → o' ≡ suc o → k' + l' ≤ ((65 * j' + 65 * e') + p') + 64 * o'
    budget k l k' l' j j' x e e' p p' o o' b a c d f g h = omega arith
