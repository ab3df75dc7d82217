-- The acts of entries that are no strokes keep what caches and running walks hold.
use Rattle.std.proofs.Common.{◌≡◌, ℕ, true, false, List, [], ◌∷◌, Option, Some, None, Result, Ok, Err, refl, sym, ap, ◌∙◌, subst, inl, inr}
use Rattle.std.specs.FinSet as set
use Rattle.std.specs.FinSet.{FinSet}
use Rattle.std.specs.List.{list_any, AllByRecursion}
use Rattle.geom_core.specs.Areas.{Area, holds, Point}
use Rattle.geom_core.specs.Grid.{key_cmp, key_of}
use Rattle.doc_model.specs.declared.canvas.Walk.TheVariants.{Up}
use Rattle.doc_model.specs.declared.canvas.Patch.{Patch}
use Rattle.doc_model.specs.declared.command.Outcome.TheVariants as outcome
use Rattle.doc_model.specs.declared.tree.TreeFault.{TreeFault}
use Rattle.doc_model.specs.Layers.{Layer, plain}
use Rattle.doc_model.specs.Picture.{Doc, canvas_area}
use Rattle.doc_model.specs.Changes.{changed}
use Rattle.doc_model.specs.Forest.{content, with_content}
use Rattle.doc_model.specs.Strokes.{Entry, Strokes, Changes, Undoes, Redoes, Purges, Exports}
use Rattle.doc_model.specs.Updates.{queued, refreshed}
use Rattle.doc_model.proofs.Contents.{with_content-with_content, content-with_content}
use Rattle.doc_model.proofs.Weights.{tree_distinct}
use Rattle.doc_model.specs.Ids.{IsTree}
use Rattle.doc_model.proofs.QueueLaws.{in_grid}
use Rattle.doc_model.specs.Queues.{queued_for}
use Rattle.doc_model.proofs.QueueWhole.{refreshed_takes}
use Rattle.doc_model.proofs.Paths.{content_put_back}
use Rattle.geom_core.proofs.Tests.{or_left, or_right, not_true}
use Rattle.machine_model.specs.State.{Reach, Whole, Part, Slot, Free, Paints, Walks, State, head_stroke, head, stroke_of}
use Rattle.machine_model.specs.Groups.{path_of, on, parent_of}
use Rattle.machine_model.specs.Covers.{composes}
use Rattle.machine_model.specs.Slots.{is_walker}
use Rattle.machine_model.specs.Step.{ActStep}
use Rattle.machine_model.specs.Effects.{updates_with, bound_of, after_entry, after_change, after_undo, after_redo, moved_to, with_outcome}
use Rattle.machine_model.specs.Caches.{CachesFold, WalkIsRight}
use Rattle.machine_model.specs.UnderWay.{IsOnWay, AtRest}
use Rattle.machine_model.specs.Reached.{Reaches, ReachesOneLayer, PastReaches, FutureReaches, DifferWithin}
use Rattle.machine_model.proofs.WalkPaths.{grouped, grouped_with, path_here, path_all, parent_of_with}
use Rattle.machine_model.proofs.Covers.{any_slot, covered_by, painted_path, FoldsAt, caches_by, fold_covers, fold_out}
use Rattle.machine_model.proofs.JobCaches.{covered_by_idle, either_covers}
use Rattle.machine_model.proofs.OtherPixels.{moved_from, fold_moves, fold_new, covered_by_with, updates_with_stays, updates_with_takes}
use Rattle.machine_model.proofs.TileBounds.{set_holds}
use Rattle.machine_model.proofs.CancelCaches.{fold_at}

-- where the head is no stroke, none is under way
pub at_rest : (s : State) → head_stroke s ≡ None → IsOnWay s s.way → AtRest s
at_rest s e way = go s.way way
  where
    go : (o : Option ℕ) → IsOnWay s o → AtRest s
    go None rest = rest
    go (Some n) u = absurd (let f : Some u.stroke ≡ None = sym u.at_head ∙ e in cc)

-- nothing but the story changes
caches_rest : (old new : State) → AtRest old → new.canvas ≡ old.canvas → new.present ≡ old.base → new.caches ≡ old.caches → new.updates ≡ old.updates → new.slots ≡ old.slots → CachesFold old → CachesFold new
caches_rest old new rest canvas present caches updates slots = caches_by old new canvas (λ g h. ap (grouped g) (sym (present ∙ sym rest.same)) ∙ h)
    (λ g p is inside h. fold_at new caches (present ∙ sym rest.same) updates slots (fold_covers (λ c. covered_by_idle any_slot old.present (painted_path new) (painted_path old) old.updates old.slots g p (not_true _ rest.idle) ∙ c) h))

-- the whole canvas is refreshed
caches_whole : (old new : State) → ((p : Point) → holds (canvas_area old.canvas) p ≡ true → in_grid p ≡ true) → new.canvas ≡ old.canvas → new.updates ≡ refreshed (canvas_area old.canvas) old.updates (canvas_area old.canvas) → CachesFold new
caches_whole old new grid canvas updates g p is inside' =
    let inside : holds (canvas_area old.canvas) p ≡ true = ap (λ c. holds (canvas_area c) p) (sym canvas) ∙ inside' in
    let queued : queued_for (composes g new.present) (refreshed (canvas_area old.canvas) old.updates (canvas_area old.canvas)) p ≡ true =
    refreshed_takes (composes g new.present) (path_all g new.present is) (canvas_area old.canvas) old.updates (canvas_area old.canvas) p (grid p inside) inside inside in
    fold_out new g p (fold_new (or_left _ _ (ap (λ q. queued_for (composes g new.present) q p) updates ∙ queued)))

-- other pixels in the tiles of one layer
caches_part : (old new : State) (q : ℕ) (x y : Layer) (keys : FinSet key_cmp) → AtRest old → ((p : Point) → holds (canvas_area old.canvas) p ≡ true → in_grid p ≡ true) → IsTree old.base → content q old.base ≡ Some x → DifferWithin keys x y
    → new.canvas ≡ old.canvas → new.present ≡ with_content q y old.base → new.caches ≡ old.caches → new.slots ≡ old.slots → new.updates ≡ updates_with old (parent_of q (with_content q y old.base)) (bound_of (set.items keys)) → CachesFold old → CachesFold new
caches_part old new q x y keys rest grid tree there same canvas present caches slots updates =
    caches_by old new canvas (λ g h. ap (grouped g) rest.same ∙ sym (grouped_with g q y old.base) ∙ ap (grouped g) (sym present) ∙ h)
    (λ g p is inside h. fold_at new caches present updates slots (point g p (ap (grouped g) (sym rest.same) ∙ is) inside (subst (λ d. FoldsAt old.caches d (painted_path old) old.updates old.slots g p) rest.same h)))
  where
    doc' : Doc
    doc' = with_content q y old.base

    queue : List Patch
    queue = updates_with old (parent_of q doc') (bound_of (set.items keys))

    is' : (g : ℕ) → grouped g old.base ≡ true → grouped g doc' ≡ true
    is' g is = grouped_with g q y old.base ∙ is

    covers : (g : ℕ) (p : Point) → grouped g old.base ≡ true → in_grid p ≡ true → covered_by any_slot old.base (painted_path old) old.updates old.slots g p ≡ true → covered_by any_slot doc' (painted_path new) queue old.slots g p ≡ true
    covers g p is grid h = either_covers _ _ _
        (λ e. or_left _ _ (updates_with_stays (composes g doc') (λ w e. path_all g doc' (is' g is)) old (parent_of q doc') (bound_of (set.items keys)) p grid e))
        (λ e. or_right (queued_for (composes g doc') queue p) _ e)
        (covered_by_with any_slot q y old.base (painted_path new) old.updates old.slots g p ∙ sym (covered_by_idle any_slot old.base (painted_path old) (painted_path new) old.updates old.slots g p (not_true _ rest.idle)) ∙ h)

    point : (g : ℕ) (p : Point) → grouped g old.base ≡ true → holds (canvas_area old.canvas) p ≡ true → FoldsAt old.caches old.base (painted_path old) old.updates old.slots g p → FoldsAt old.caches doc' (painted_path new) queue old.slots g p
    point g p is inside h = elim (moved_from old.caches q x y old.base g p (set.contains keys (key_of p)) tree there (λ e. same.pixels p e)) [
      | inl at_same ↦ fold_moves refl at_same (covers g p is (grid p inside)) h
      | inr hit ↦ fold_new (or_left _ _ (updates_with_takes (composes g doc') (λ w e. path_all g doc' (is' g is)) old (parent_of q doc') (bound_of (set.items keys)) p (grid p inside) inside
          (ap (λ h. on g (path_of (Up h) doc')) (parent_of_with q q y old.base ∙ hit.1) ∙ path_here g doc' (is' g is)) (set_holds keys p hit.0)))
    ]

-- an undo or redo from old's document to another one
caches_moved : (old new : State) (target : State) (d : Doc) (r : Reach) → AtRest old → ((p : Point) → holds (canvas_area old.canvas) p ≡ true → in_grid p ≡ true) → IsTree old.base
    → ((q : ℕ) (keys : FinSet key_cmp) → r ≡ Part q keys → (x y : Layer) × (content q old.base ≡ Some x) × (d ≡ with_content q y old.base) × DifferWithin keys x y)
    → target.canvas ≡ old.canvas → target.updates ≡ old.updates → target.slots ≡ old.slots → target.caches ≡ old.caches
    → new ≡ moved_to target d r → CachesFold old → CachesFold new
caches_moved old new target d Whole rest grid tree part canvas updates slots caches is fold =
    caches_whole old new grid (ap (λ (s : State). s.canvas) is ∙ canvas) (ap (λ (s : State). s.updates) is ∙ refresh_same)
  where
    refresh_same : refreshed (canvas_area target.canvas) target.updates (canvas_area target.canvas) ≡ refreshed (canvas_area old.canvas) old.updates (canvas_area old.canvas)
    refresh_same i = refreshed (canvas_area (canvas i)) (updates i) (canvas_area (canvas i))
caches_moved old new target d (Part q keys) rest grid tree part canvas updates slots caches is fold =
    let e : (x y : Layer) × (content q old.base ≡ Some x) × (d ≡ with_content q y old.base) × DifferWithin keys x y = part q keys refl in
    caches_part old new q e.0 e.1 keys rest grid tree e.2 e.4 (ap (λ (s : State). s.canvas) is ∙ canvas) (ap (λ (s : State). s.present) is ∙ e.3) (ap (λ (s : State). s.caches) is ∙ caches) (ap (λ (s : State). s.slots) is ∙ slots)
    (ap (λ (s : State). s.updates) is ∙ queue_same (bound_of (set.items keys)) ∙ ap (λ t. updates_with old (parent_of q t) (bound_of (set.items keys))) e.3) fold
  where
    queue_same : (o : Option Area) → updates_with target (parent_of q d) o ≡ updates_with old (parent_of q d) o
    queue_same None = updates
    queue_same (Some rect) = λ i. queued (canvas_area (canvas i)) (updates i) (Up (parent_of q d)) rect

-- the entry is no stroke
abbrev stroke_free : Entry → Type 0
stroke_free (Strokes stroke) = ⊥
stroke_free e = Unit {0}

-- the trees of past and future
abbrev pub AllTrees : List (Doc × Reach) → Type 0
AllTrees es = AllByRecursion (λ (e : Doc × Reach). IsTree e.0) es

module _ (old new : State) (rest : AtRest old) (grid : (p : Point) → holds (canvas_area old.canvas) p ≡ true → in_grid p ≡ true) (tree : IsTree old.base) where
  acts_rest : (t : State) → new ≡ t → t.canvas ≡ old.canvas → t.present ≡ old.base → t.caches ≡ old.caches → t.updates ≡ old.updates → t.slots ≡ old.slots → CachesFold old → CachesFold new
  acts_rest t e a b c d f = caches_rest old new rest (ap (λ (s : State). s.canvas) e ∙ a) (ap (λ (s : State). s.present) e ∙ b) (ap (λ (s : State). s.caches) e ∙ c) (ap (λ (s : State). s.updates) e ∙ d) (ap (λ (s : State). s.slots) e ∙ f)

  by_change : (r : Result Doc TreeFault) → new ≡ after_change old r → CachesFold old → CachesFold new
  by_change (Err fault) e fold = acts_rest _ e refl refl refl refl refl fold
  by_change (Ok d) e fold = caches_whole old new grid (ap (λ (s : State). s.canvas) e) (ap (λ (s : State). s.updates) e)

  by_undo : (past : List (Doc × Reach)) → AllTrees past → PastReaches past old.base → new ≡ after_undo old past → CachesFold old → CachesFold new
  by_undo [] trees reaches e = acts_rest _ e refl refl refl refl refl
  by_undo (d ∷ past) trees reaches e = caches_moved old new (record (with_outcome old outcome.Done) { past = past; future = (old.base, d.1) ∷ old.future }) d.0 d.1 rest grid tree part refl refl refl refl e
    where
      part : (q : ℕ) (keys : FinSet key_cmp) → d.1 ≡ Part q keys → (x y : Layer) × (content q old.base ≡ Some x) × (d.0 ≡ with_content q y old.base) × DifferWithin keys x y
      part q keys is =
          let r : ReachesOneLayer q keys d.0 old.base = subst (λ r. Reaches r d.0 old.base) is reaches.0 in (
            r.after,
            r.before,
            ap (content q) r.changed ∙ content-with_content q r.after r.before d.0 r.was,
            sym (ap (with_content q r.before) r.changed ∙ with_content-with_content q r.before r.after d.0 ∙ content_put_back q r.before d.0 (tree_distinct d.0 trees.0) r.was),
            record { default_pixel = sym r.within.default_pixel; pixels = λ p out. sym (r.within.pixels p out) },
          )

  by_redo : (future : List (Doc × Reach)) → FutureReaches old.base future → new ≡ after_redo old future → CachesFold old → CachesFold new
  by_redo [] reaches e = acts_rest _ e refl refl refl refl refl
  by_redo (d ∷ future) reaches e = caches_moved old new (record (with_outcome old outcome.Done) { past = (old.base, d.1) ∷ old.past; future = future }) d.0 d.1 rest grid tree part refl refl refl refl e
    where
      part : (q : ℕ) (keys : FinSet key_cmp) → d.1 ≡ Part q keys → (x y : Layer) × (content q old.base ≡ Some x) × (d.0 ≡ with_content q y old.base) × DifferWithin keys x y
      part q keys is =
          let r : ReachesOneLayer q keys old.base d.0 = subst (λ r. Reaches r old.base d.0) is reaches.0 in
          (r.before, r.after, r.was, r.changed, r.within)

  by_entry : (e : Entry) → stroke_free e → AllTrees old.past → PastReaches old.past old.base → FutureReaches old.base old.future → new ≡ after_entry old e → CachesFold old → CachesFold new
  by_entry (Strokes stroke) free trees past future e = absurd free
  by_entry (Changes change) free trees past future e = by_change (changed plain change old.base) e
  by_entry Undoes free trees past future e = by_undo old.past trees past e
  by_entry Redoes free trees past future e = by_redo old.future future e
  by_entry (Purges n) free trees past future e = acts_rest _ e refl refl refl refl refl
  by_entry Exports free trees past future e = acts_rest _ e refl refl refl refl refl

free_entry : (s : State) (e : Entry) → head s ≡ Some e → head_stroke s ≡ None → stroke_free e
free_entry s (Strokes stroke) h free = (let t : Some stroke ≡ None = sym (ap stroke_of h) ∙ free in clash t)
  where
    clash : {A : Type 0} {x : A} → Some x ≡ None → ⊥
    clash t = cc
free_entry s (Changes change) h free = tt
free_entry s Undoes h free = tt
free_entry s Redoes h free = tt
free_entry s (Purges n) h free = tt
free_entry s Exports h free = tt

-- what an act leaves in the caches
pub caches_act : (old new : State) → ActStep old new → IsOnWay old old.way → ((p : Point) → holds (canvas_area old.canvas) p ≡ true → in_grid p ≡ true) → IsTree old.base → AllTrees old.past → PastReaches old.past old.base → FutureReaches old.base old.future
    → CachesFold old → CachesFold new
caches_act old new step way grid tree trees past future = by_entry old new (at_rest old step.no_stroke way) grid tree step.entry (free_entry old step.entry step.at_head step.no_stroke) trees past future step.new_is

no_walks : (s : State) (slots : List Slot) → list_any is_walker slots ≡ false → AllByRecursion (WalkIsRight s) slots
no_walks s [] e = tt
no_walks s (Free ∷ slots) e = (tt, no_walks s slots e)
no_walks s (Paints w ∷ slots) e = (tt, no_walks s slots e)
no_walks s (Walks w ∷ slots) e = absurd (let t : true ≡ false = e in cc)

-- an act leaves the slots
pub slots_act : (old : State) (e : Entry) → (after_entry old e).slots ≡ old.slots
slots_act old (Strokes stroke) = refl
slots_act old (Changes change) = go (changed plain change old.base)
  where
    go : (r : Result Doc TreeFault) → (after_change old r).slots ≡ old.slots
    go (Ok d) = refl
    go (Err f) = refl
slots_act old Undoes = go old.past
  where
    moved : (t : State) (d : Doc) (r : Reach) → (moved_to t d r).slots ≡ t.slots
    moved t d Whole = refl
    moved t d (Part q keys) = refl

    go : (past : List (Doc × Reach)) → (after_undo old past).slots ≡ old.slots
    go [] = refl
    go (e ∷ past) = moved (record (with_outcome old outcome.Done) { past = past; future = (old.base, e.1) ∷ old.future }) e.0 e.1
slots_act old Redoes = go old.future
  where
    moved : (t : State) (d : Doc) (r : Reach) → (moved_to t d r).slots ≡ t.slots
    moved t d Whole = refl
    moved t d (Part q keys) = refl

    go : (future : List (Doc × Reach)) → (after_redo old future).slots ≡ old.slots
    go [] = refl
    go (e ∷ future) = moved (record (with_outcome old outcome.Done) { past = (old.base, e.1) ∷ old.past; future = future }) e.0 e.1
slots_act old (Purges n) = refl
slots_act old Exports = refl

moved_canvas : (t : State) (d : Doc) (r : Reach) → (moved_to t d r).canvas ≡ t.canvas
moved_canvas t d Whole = refl
moved_canvas t d (Part q keys) = refl

-- and the canvas
pub canvas_act : (old : State) (e : Entry) → (after_entry old e).canvas ≡ old.canvas
canvas_act old (Strokes stroke) = refl
canvas_act old (Changes change) = go (changed plain change old.base)
  where
    go : (r : Result Doc TreeFault) → (after_change old r).canvas ≡ old.canvas
    go (Ok d) = refl
    go (Err f) = refl
canvas_act old Undoes = go old.past
  where
    go : (past : List (Doc × Reach)) → (after_undo old past).canvas ≡ old.canvas
    go [] = refl
    go (e ∷ past) = moved_canvas (record (with_outcome old outcome.Done) { past = past; future = (old.base, e.1) ∷ old.future }) e.0 e.1
canvas_act old Redoes = go old.future
  where
    go : (future : List (Doc × Reach)) → (after_redo old future).canvas ≡ old.canvas
    go [] = refl
    go (e ∷ future) = moved_canvas (record (with_outcome old outcome.Done) { past = (old.base, e.1) ∷ old.past; future = future }) e.0 e.1
canvas_act old (Purges n) = refl
canvas_act old Exports = refl

-- no walk runs
pub walks_act : (old new : State) → ActStep old new → AllByRecursion (WalkIsRight new) new.slots
walks_act old new step = subst (AllByRecursion (WalkIsRight new)) (sym (ap (λ (s : State). s.slots) step.new_is ∙ slots_act old step.entry)) (no_walks new old.slots (not_true _ step.no_walks))
