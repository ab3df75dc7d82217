-- A stroke that finishes keeps the machine orderly.
use Rattle.std.proofs.Common.{◌≡◌, ℕ, suc, zero, ◌+◌, ◌*◌, ◌≤◌, Bool, true, false, ◌&&◌, List, [], ◌∷◌, ◌++◌, Option, Some, None, length, map, refl, sym, ap, ◌∙◌, arith, subst, inl, inr, ◌||◌}
use Rattle.std.specs.FinSet as set
use Rattle.std.proofs.lemmas.List.Folds.{list_any-append}
use Rattle.geom_core.proofs.Tests.{true_or_false, kept, or_left, or_right, is_some-None, length_more}
use Rattle.geom_core.proofs.Keys.{key_of_any_held}
use Rattle.geom_core.specs.Areas.{Area, holds, Point}
use Rattle.geom_core.specs.Rects.{any_holds}
use Rattle.geom_core.specs.Grid.{Key, key_of, key_set, all_keys_of}
use Rattle.geom_core.specs.Keys.{key_cmp_total}
use Rattle.doc_model.specs.declared.job.Job.{Job}
use Rattle.doc_model.specs.declared.job.Kind.{Kind}
use Rattle.doc_model.specs.declared.command.Outcome.TheVariants as outcome
use Rattle.doc_model.specs.Layers.{Layer, at}
use Rattle.doc_model.specs.Jobs.{writes, apply_all}
use Rattle.doc_model.specs.Forest.{content, with_content}
use Rattle.doc_model.specs.Feeding.{is_closed_entry}
use Rattle.doc_model.specs.Strokes.{Jobs, Stroke, Fate, Open, Ended, Cancelled, Strokes, conflict}
use Rattle.doc_model.specs.Meaning.{Story, told_stroke, closed_stroke, laid_stroke, painted_doc, advanced}
use Rattle.machine_model.specs.State.{State, head, head_stroke}
use Rattle.machine_model.specs.Settled.{story}
use Rattle.machine_model.specs.Slots.{no_painter}
use Rattle.machine_model.specs.Painters.{done}
use Rattle.machine_model.specs.Guards.{kept_jobs, is_ended, is_paint, is_exclusive}
use Rattle.machine_model.specs.Effects.{writes_of, no_paint_outcome, after_finish}
use Rattle.machine_model.specs.Step.{FinishStep}
use Rattle.machine_model.specs.Reached.{ReachesOneLayer}
use Rattle.machine_model.specs.UnderWay.{AtRest, UnderWay, IsOnWay, writes_at, shown}
use Rattle.machine_model.specs.Counted.{painters, ended, ended_jobs}
use Rattle.machine_model.specs.Sound.{IsOrderly}
use Rattle.machine_model.proofs.FeedKeeps.{head_is, not_begun}
use Rattle.machine_model.proofs.FinishedLayer.{whole_layer}
use Rattle.machine_model.proofs.Stories.{told_more}
use Rattle.machine_model.proofs.WalksStand.{shape_same, all_stand}
use Rattle.machine_model.proofs.SlotChanges.{ended_few}
use Rattle.machine_model.proofs.LeavingCounts.{jobs_left}

ended_closed : (stroke : Stroke) → is_ended stroke ≡ true → is_closed_entry (Strokes stroke) ≡ true
ended_closed stroke e = go stroke.fate refl
  where
    go : (f : Fate) → stroke.fate ≡ f → is_closed_entry (Strokes stroke) ≡ true
    go Ended h = rw h refl
    go Cancelled h = rw h refl
    go Open h = absurd (let t : false ≡ true = rw h at e in cc)

-- what an ended stroke without a conflict means
ended_told : (s : Story) (stroke : Stroke) → conflict stroke.jobs ≡ None → is_ended stroke ≡ true → told_stroke s stroke (conflict stroke.jobs) ≡ laid_stroke s stroke (content stroke.layer s.document)
ended_told s stroke clear e = ap (told_stroke s stroke) clear ∙ go stroke.fate refl
  where
    go : (f : Fate) → stroke.fate ≡ f → closed_stroke s stroke stroke.fate ≡ laid_stroke s stroke (content stroke.layer s.document)
    go Ended h = ap (closed_stroke s stroke) h
    go Open h = ap (closed_stroke s stroke) h
    go Cancelled h = absurd (let t : false ≡ true = rw h at e in cc)

-- a point that none of the jobs may change
shown_none : (jobs : Jobs) (layer : Layer) (d : ℕ → Key → Bool) (n : ℕ) (p : Point) → ((j : ℕ) → any_holds (writes_at jobs j) p ≡ false) → shown jobs layer d n p ≡ at layer p
shown_none jobs layer d zero p out = refl
shown_none jobs layer d (suc n) p out = kept (any_holds (writes_at jobs n) p && d n (key_of p)) _ _ (ap (λ b. b && d n (key_of p)) (out n)) ∙ shown_none jobs layer d n p out

any_areas : (p : Point) (xs ys : List Area) → any_holds (xs ++ ys) p ≡ (any_holds xs p || any_holds ys p)
any_areas p xs ys = list_any-append (λ a. holds a p) xs ys

written : (jobs : Jobs) (j : ℕ) (p : Point) → any_holds (writes_at jobs j) p ≡ true → any_holds (writes_of jobs) p ≡ true
written [] j p h = h
written (k ∷ jobs) zero p h = any_areas p (writes k.1) (writes_of jobs) ∙ or_left _ _ h
written (k ∷ jobs) (suc j) p h = any_areas p (writes k.1) (writes_of jobs) ∙ or_right (any_holds (writes k.1) p) _ (written jobs j p h)

-- outside the tiles of a stroke none of its jobs may change a point
untouched : (jobs : Jobs) (p : Point) → set.contains (key_set (writes_of jobs)) (key_of p) ≡ false → (j : ℕ) → any_holds (writes_at jobs j) p ≡ false
untouched jobs p out j = elim (true_or_false (any_holds (writes_at jobs j) p)) [
  | inl h ↦ (let t : set.contains (key_set (writes_of jobs)) (key_of p) ≡ true = set.contains-from_list key_cmp_total (all_keys_of (writes_of jobs)) (key_of p) ∙ key_of_any_held (writes_of jobs) p (written jobs j p h) in cc)
  | inr h ↦ h
]

finish_nothing : (old : State) (stroke : Stroke) → IsOrderly old → head_stroke old ≡ Some stroke → is_ended stroke ≡ true → conflict stroke.jobs ≡ None → is_paint stroke.layer old.base ≡ false → IsOrderly (after_finish old stroke false)
finish_nothing old stroke sound at_head closed clear none = record {
  told = told_more old next (Strokes stroke) sound.told is_head (ended_closed stroke closed) refl refl means;
  reached = record { past = sound.reached.past; future = sound.reached.future };
  on_way = subst (IsOnWay next) (sym begun) (record { same = rest.same; idle = rest.idle });
  walking = record {
    queue = sound.walking.queue;
    apart = sound.walking.apart;
    groups = sound.walking.groups;
    walks = all_stand old next (shape_same old next refl) old.slots sound.walking.walks;
    alone = λ e. (let f : is_exclusive (head_stroke next) old.way ≡ false = ap (is_exclusive (head_stroke next)) begun ∙ not_begun (head_stroke next) in cc);
  };
  counted = record {
    canvas = sound.counted.canvas;
    slots = sound.counted.slots;
    below = sound.counted.below;
    differ = sound.counted.differ;
    own = sound.counted.own;
    budget = budget old.next (length old.updates) _ _ _ _ (painters old.slots) _ _ sound.counted.budget (jobs_left old (Strokes stroke) (no_paint_outcome stroke.layer old.base) is_head) (length_more old.outcomes (no_paint_outcome stroke.layer old.base));
  };
}
  where
    next : State
    next = after_finish old stroke false

    is_head : head old ≡ Some (Strokes stroke)
    is_head = head_is (head old) stroke at_head

    no_content : content stroke.layer old.base ≡ None
    no_content = is_some-None (content stroke.layer old.base) none

    means : story next ≡ told_stroke (story old) stroke (conflict stroke.jobs)
    means = sym (ended_told (story old) stroke clear closed ∙ ap (laid_stroke (story old) stroke) no_content)

    begun : old.way ≡ None
    begun = go old.way refl
      where
        go : (w : Option ℕ) → old.way ≡ w → w ≡ None
        go None e = refl
        go (Some n) e =
            let way : UnderWay old n = subst (IsOnWay old) e sound.on_way in
            let same : Some stroke ≡ Some way.stroke = sym at_head ∙ way.at_head in
            let one : stroke ≡ way.stroke = cc in
            let there : content stroke.layer old.base ≡ Some way.base_layer = ap (λ (t : Stroke). content t.layer old.base) one ∙ way.was in
            absurd (let f : Some way.base_layer ≡ None = sym there ∙ no_content in cc)

    rest : AtRest old
    rest = subst (IsOnWay old) begun sound.on_way

    budget : (k l j x j' e p o o' : ℕ) → k + l ≤ ((65 * j + 65 * e) + p) + 64 * o → j' ≡ j + x → o' ≡ suc o → k + l ≤ ((65 * j' + 65 * e) + p) + 64 * o'
    budget k l j x j' e p o o' b f g = omega arith

finish_whole : (old : State) (stroke : Stroke) → IsOrderly old → head_stroke old ≡ Some stroke → is_ended stroke ≡ true → conflict stroke.jobs ≡ None → is_paint stroke.layer old.base ≡ true
    → old.way ≡ Some (length stroke.jobs) → no_painter old ≡ true → IsOrderly (after_finish old stroke true)
finish_whole old stroke sound at_head closed clear paint begun idle = record {
  told = told_more old next (Strokes stroke) sound.told is_head (ended_closed stroke closed) refl refl means;
  reached = record { past = (reaches, sound.reached.past); future = tt };
  on_way = record { same = refl; idle = idle };
  walking = record {
    queue = sound.walking.queue;
    apart = sound.walking.apart;
    groups = sound.walking.groups;
    walks = all_stand old next (shape_same old next refl) old.slots sound.walking.walks;
    alone = λ e. (let f : is_exclusive (head_stroke next) None ≡ false = not_begun (head_stroke next) in cc);
  };
  counted = record {
    canvas = sound.counted.canvas;
    slots = sound.counted.slots;
    below = sound.counted.below;
    differ = sound.counted.differ;
    own = sound.counted.own;
    budget = budget old.next (length old.updates) _ (length stroke.jobs) _ _ (painters old.slots) _ _ sound.counted.budget (jobs_left old (Strokes stroke) outcome.Done is_head) (length_more old.outcomes outcome.Done) all_ended;
  };
}
  where
    next : State
    next = after_finish old stroke true

    is_head : head old ≡ Some (Strokes stroke)
    is_head = head_is (head old) stroke at_head

    way : UnderWay old (length stroke.jobs)
    way = subst (IsOnWay old) begun sound.on_way

    same_stroke : way.stroke ≡ stroke
    same_stroke = let e : Some way.stroke ≡ Some stroke = sym way.at_head ∙ at_head in cc

    was : content stroke.layer old.base ≡ Some way.base_layer
    was = ap (λ (t : Stroke). content t.layer old.base) (sym same_stroke) ∙ way.was

    clear' : conflict way.stroke.jobs ≡ None
    clear' = ap (λ (t : Stroke). conflict t.jobs) same_stroke ∙ clear

    layer_is : way.layer ≡ apply_all (map (λ (k : Kind × Job). k.1) stroke.jobs) way.base_layer
    layer_is = whole_layer old (length stroke.jobs) way clear' (ap (λ (t : Stroke). length t.jobs) (sym same_stroke)) idle ∙ ap (λ (t : Stroke). apply_all (map (λ (k : Kind × Job). k.1) t.jobs) way.base_layer) same_stroke

    present_is : old.present ≡ with_content stroke.layer way.layer old.base
    present_is = way.is ∙ ap (λ (t : Stroke). with_content t.layer way.layer old.base) same_stroke

    document_is : old.present ≡ painted_doc stroke way.base_layer old.base
    document_is = present_is ∙ ap (λ l. with_content stroke.layer l old.base) layer_is

    means : story next ≡ told_stroke (story old) stroke (conflict stroke.jobs)
    means = ap (λ d. advanced (story old) d) document_is ∙ sym (ended_told (story old) stroke clear closed ∙ ap (laid_stroke (story old) stroke) was)

    kept_are : kept_jobs way.stroke ≡ stroke.jobs
    kept_are = ap kept_jobs same_stroke ∙ (rw clear refl)

    reaches : ReachesOneLayer stroke.layer (key_set (writes_of stroke.jobs)) old.base old.present
    reaches = record {
      before = way.base_layer;
      after = way.layer;
      was = was;
      changed = present_is;
      within = record {
        default_pixel = sym way.painted.default_pixel;
        pixels = λ p out. sym (way.painted.pixels p ∙ shown_none (kept_jobs way.stroke) way.base_layer (done old.slots) (length stroke.jobs) p (λ j. ap (λ jobs. any_holds (writes_at jobs j) p) kept_are ∙ untouched stroke.jobs p out j));
      };
    }

    all_ended : ended_jobs old.slots old.way ≤ length stroke.jobs
    all_ended = let e : ended_jobs old.slots old.way ≡ ended old.slots (length stroke.jobs) = ap (ended_jobs old.slots) begun in let f : ended old.slots (length stroke.jobs) ≤ length stroke.jobs = ended_few old.slots (length stroke.jobs) in omega arith

    budget : (k l j x j' e p o o' : ℕ) → k + l ≤ ((65 * j + 65 * e) + p) + 64 * o → j' ≡ j + x → o' ≡ suc o → e ≤ x → k + l ≤ ((65 * j' + 65 * 0) + p) + 64 * o'
    budget k l j x j' e p o o' b f g h = omega arith

-- a finish keeps the machine orderly
pub finish_keeps : (old new : State) → IsOrderly old → FinishStep old new → IsOrderly new
finish_keeps old new sound step = subst IsOrderly (sym step.new_is) (go (is_paint step.stroke.layer old.base) refl)
  where
    clear : conflict step.stroke.jobs ≡ None
    clear = is_some-None (conflict step.stroke.jobs) step.no_overlap

    go : (b : Bool) → is_paint step.stroke.layer old.base ≡ b → IsOrderly (after_finish old step.stroke b)
    go true e = let a : (old.way ≡ Some (length step.stroke.jobs)) × (no_painter old ≡ true) = step.all_ended e in finish_whole old step.stroke sound step.at_head step.ended clear e a.0 a.1
    go false e = finish_nothing old step.stroke sound step.at_head step.ended clear e
