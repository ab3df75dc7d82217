-- The events that change no pixel and no cache keep what caches and running walks hold.
use Rattle.geom_core.proofs.Tests.{and_left, and_right, not_true, or_cases, or_left, or_right, is_some-None, and-false}
use Rattle.std.proofs.Common.{◌≡◌, ℕ, Bool, true, false, ◌&&◌, ◌||◌, List, [], ◌∷◌, Option, Some, None, refl, sym, ap, ◌∙◌, subst, inl, inr}
use Rattle.std.specs.Prelude.{slice_get, slice_set}
use Rattle.std.specs.List.{list_any, AllByRecursion}
use Rattle.geom_core.specs.Areas.{Area, holds, Point}
use Rattle.geom_core.specs.Rects.{any_holds}
use Rattle.doc_model.specs.declared.canvas.Walk.{Walk}
use Rattle.doc_model.specs.declared.canvas.Walk.TheVariants.{Up, All}
use Rattle.doc_model.specs.declared.canvas.Patch.{Patch}
use Rattle.doc_model.specs.Jobs.{writes}
use Rattle.doc_model.specs.Picture.{Doc, canvas_area}
use Rattle.doc_model.specs.Forest.{content}
use Rattle.doc_model.specs.Strokes.{Stroke}
use Rattle.doc_model.specs.Updates.{queued}
use Rattle.doc_model.proofs.QueueLaws.{in_grid}
use Rattle.doc_model.specs.Queues.{queued_for}
use Rattle.doc_model.proofs.QueueWhole.{queued_stays, queued_takes}
use Rattle.machine_model.specs.State.{Painter, Slot, Free, Paints, Walks, State, head_stroke}
use Rattle.machine_model.specs.Guards.{is_paint}
use Rattle.machine_model.specs.Groups.{path_of, on, parent_of}
use Rattle.machine_model.specs.Covers.{painted_group, composes}
use Rattle.machine_model.specs.Slots.{is_painter, no_painter}
use Rattle.machine_model.specs.Step.{InitStep, StartStep, EndStep, FinishStep}
use Rattle.machine_model.specs.Effects.{after_finish, updates_with_all}
use Rattle.machine_model.specs.Caches.{CachesFold, WalkIsRight}
use Rattle.machine_model.specs.Walking.{WalkStands, IsGroupOf, WalkInside}
use Rattle.machine_model.specs.UnderWay.{IsOnWay, UnderWay}
use Rattle.machine_model.proofs.Lists.{all_set}
use Rattle.machine_model.proofs.WalkPaths.{grouped, path_all}
use Rattle.machine_model.proofs.Covers.{groups_of, slot_on, any_slot, covered_by, painted_path, IsFold, IsRead, caches_by, walks_by, fold_covers, read_covers, any_set_grow, any_set_or}

-- a choice of two
pub either_covers : (a b : Bool) (c : Bool) → (a ≡ true → c ≡ true) → (b ≡ true → c ≡ true) → (a || b) ≡ true → c ≡ true
either_covers a b c f g h = elim (or_cases a b h) [ inl e ↦ f e | inr e ↦ g e ]

-- Init
pub caches_init : (old new : State) → InitStep old new → CachesFold old → CachesFold new
caches_init old new step = caches_by old new (ap (λ (s : State). s.canvas) step.new_is) (λ g h. ap (λ (s : State). grouped g s.present) (sym step.new_is) ∙ h)
    (λ g p is inside h. subst (λ s. IsFold s g p) (sym step.new_is) h)

-- and what running walks hold
pub walks_init : (old new : State) → InitStep old new → AllByRecursion (WalkStands old) old.slots → AllByRecursion (WalkInside (canvas_area old.canvas)) old.slots → AllByRecursion (WalkIsRight old) old.slots → AllByRecursion (WalkIsRight new) new.slots
walks_init old new step stands inside right = subst (AllByRecursion (WalkIsRight new)) (ap (λ (s : State). s.slots) (sym step.new_is))
    (walks_by old new (λ w is path p g read held inside on' same h. subst (λ s. IsRead s w g read p) (sym step.new_is) h) old.slots stands inside right)

-- Start
-- a free slot that is filled takes nothing away
covered_by_filled : (keep : Slot → Bool) (doc : Doc) (up : List ℕ) (updates : List Patch) (slots : List Slot) (i : ℕ) (slot : Slot) (g : ℕ) (p : Point) → slice_get slots i ≡ Some Free
    → covered_by keep doc up updates slots g p ≡ true → covered_by keep doc up updates (slice_set slots i slot) g p ≡ true
covered_by_filled keep doc up updates slots i slot g p free = either_covers _ _ _
    (λ e. or_left _ _ e)
    (λ e. or_right (queued_for (composes g doc) updates p) _ (any_set_grow (λ slot. keep slot && slot_on up g p slot) slots i Free slot free (and-false (keep Free)) e))

-- the caches as a job starts
pub caches_start : (old new : State) (place : ℕ) → StartStep old place new → CachesFold old → CachesFold new
caches_start old new place step = caches_by old new (ap (λ (s : State). s.canvas) step.new_is) (λ g h. ap (λ (s : State). grouped g s.present) (sym step.new_is) ∙ h)
    (λ g p is inside h. subst (λ s. IsFold s g p) (sym step.new_is) (fold_covers (covered_by_filled any_slot old.present (painted_path old) old.updates old.slots place _ g p step.free) h))

-- and what running walks hold
pub walks_start : (old new : State) (place : ℕ) → StartStep old place new → AllByRecursion (WalkStands old) old.slots → AllByRecursion (WalkInside (canvas_area old.canvas)) old.slots → AllByRecursion (WalkIsRight old) old.slots → AllByRecursion (WalkIsRight new) new.slots
walks_start old new place step stands inside right = subst (AllByRecursion (WalkIsRight new)) (ap (λ (s : State). s.slots) (sym step.new_is))
    (all_set (WalkIsRight new) old.slots place _
    (walks_by old new (λ w is path p g read held inside on' same h. subst (λ s. IsRead s w g read p) (sym step.new_is) (read_covers (covered_by_filled is_painter old.present (painted_path old) old.updates old.slots place _ g p step.free) h)) old.slots stands inside right) tt)

-- End
updates_with_all_stays : (covers : Walk → Bool) → ((w : Walk) → covers w ≡ true → covers All ≡ true) → (canvas : Area) (g : ℕ) (more : List Area) (patches : List Patch) (p : Point)
    → in_grid p ≡ true → queued_for covers patches p ≡ true → queued_for covers (updates_with_all canvas g more patches) p ≡ true
updates_with_all_stays covers all canvas g [] patches p grid h = h
updates_with_all_stays covers all canvas g (a ∷ more) patches p grid h = updates_with_all_stays covers all canvas g more (queued canvas patches (Up g) a) p grid (queued_stays covers all canvas patches (Up g) a p grid h)

-- what the rectangles hold is queued
pub updates_with_all_takes : (covers : Walk → Bool) → ((w : Walk) → covers w ≡ true → covers All ≡ true) → (canvas : Area) (g : ℕ) (more : List Area) (patches : List Patch) (p : Point)
    → in_grid p ≡ true → holds canvas p ≡ true → covers (Up g) ≡ true → any_holds more p ≡ true → queued_for covers (updates_with_all canvas g more patches) p ≡ true
updates_with_all_takes covers all canvas g [] patches p grid inside c h = absurd (let t : false ≡ true = h in cc)
updates_with_all_takes covers all canvas g (a ∷ more) patches p grid inside c h = elim (or_cases (holds a p) (any_holds more p) h) [
  | inl e ↦ updates_with_all_stays covers all canvas g more (queued canvas patches (Up g) a) p grid (queued_takes covers all canvas patches (Up g) a p grid inside c e)
  | inr e ↦ updates_with_all_takes covers all canvas g more (queued canvas patches (Up g) a) p grid inside c e
]

-- a job that ends leaves what it covered in the queue
covered_by_ended : (keep : Slot → Bool) (doc : Doc) (h : ℕ) (canvas : Area) (updates : List Patch) (slots : List Slot) (i : ℕ) (w : Painter) (g : ℕ) (p : Point) → slice_get slots i ≡ Some (Paints w)
    → grouped g doc ≡ true → in_grid p ≡ true → holds canvas p ≡ true
    → covered_by keep doc (path_of (Up h) doc) updates slots g p ≡ true → covered_by keep doc (path_of (Up h) doc) (updates_with_all canvas h (writes w.job) updates) (slice_set slots i Free) g p ≡ true
covered_by_ended keep doc h canvas updates slots i w g p runs is grid inside = either_covers _ _ _
    (λ e. or_left _ _ (updates_with_all_stays covers all canvas h (writes w.job) updates p grid e))
    (λ e. elim (any_set_or test slots i (Paints w) Free runs e) [
      | inl f ↦ or_left _ _ (updates_with_all_takes covers all canvas h (writes w.job) updates p grid inside (and_right (any_holds (writes w.job) p) _ (and_right (keep (Paints w)) _ f)) (and_left (any_holds (writes w.job) p) _ (and_right (keep (Paints w)) _ f)))
      | inr f ↦ or_right (queued_for covers (updates_with_all canvas h (writes w.job) updates) p) _ f
    ])
  where
    covers : Walk → Bool
    covers w = on g (path_of w doc)

    all : (w : Walk) → covers w ≡ true → covers All ≡ true
    all w e = path_all g doc is

    test : Slot → Bool
    test slot = keep slot && slot_on (path_of (Up h) doc) g p slot

-- the path that the stroke at the head paints
pub painted_by : (old : State) (stroke : Stroke) → head_stroke old ≡ Some stroke → painted_path old ≡ path_of (Up (parent_of stroke.layer old.present)) old.present
painted_by old stroke e = ap (λ o. path_of (Up (painted_group old o)) old.present) e

-- the caches as a job ends
pub caches_end : (old new : State) (place : ℕ) → ((p : Point) → holds (canvas_area old.canvas) p ≡ true → in_grid p ≡ true) → EndStep old place new → CachesFold old → CachesFold new
caches_end old new place grid step = caches_by old new (ap (λ (s : State). s.canvas) step.new_is) (λ g h. ap (λ (s : State). grouped g s.present) (sym step.new_is) ∙ h)
    (λ g p is inside h. subst (λ s. IsFold s g p) (sym step.new_is) (fold_covers (more g p is inside) h))
  where
    more : (g : ℕ) (p : Point) → grouped g old.present ≡ true → holds (canvas_area old.canvas) p ≡ true → covered_by any_slot old.present (painted_path old) old.updates old.slots g p ≡ true
        → covered_by any_slot old.present (painted_path old) (updates_with_all (canvas_area old.canvas) (parent_of step.stroke.layer old.present) (writes step.painter.job) old.updates) (slice_set old.slots place Free) g p ≡ true
    more g p is inside = subst (λ up. covered_by any_slot old.present up old.updates old.slots g p ≡ true
        → covered_by any_slot old.present up (updates_with_all (canvas_area old.canvas) (parent_of step.stroke.layer old.present) (writes step.painter.job) old.updates) (slice_set old.slots place Free) g p ≡ true)
        (sym (painted_by old step.stroke step.at_head))
        (covered_by_ended any_slot old.present (parent_of step.stroke.layer old.present) (canvas_area old.canvas) old.updates old.slots place step.painter g p step.runs is (grid p inside) inside)

-- and what running walks hold
pub walks_end : (old new : State) (place : ℕ) → ((p : Point) → holds (canvas_area old.canvas) p ≡ true → in_grid p ≡ true) → ((w : Walk) (g : ℕ) → IsGroupOf old.present w → on g (path_of w old.present) ≡ true → grouped g old.present ≡ true)
    → EndStep old place new → AllByRecursion (WalkStands old) old.slots → AllByRecursion (WalkInside (canvas_area old.canvas)) old.slots → AllByRecursion (WalkIsRight old) old.slots → AllByRecursion (WalkIsRight new) new.slots
walks_end old new place grid groups step stands inside right = subst (AllByRecursion (WalkIsRight new)) (ap (λ (s : State). s.slots) (sym step.new_is))
    (all_set (WalkIsRight new) old.slots place Free
    (walks_by old new (λ w is path p g read held inside on' same h. subst (λ s. IsRead s w g read p) (sym step.new_is) (read_covers (more g p (groups w.patch.walk g is (ap (on g) (sym path) ∙ on')) inside) h)) old.slots stands inside right) tt)
  where
    more : (g : ℕ) (p : Point) → grouped g old.present ≡ true → holds (canvas_area old.canvas) p ≡ true → covered_by is_painter old.present (painted_path old) old.updates old.slots g p ≡ true
        → covered_by is_painter old.present (painted_path old) (updates_with_all (canvas_area old.canvas) (parent_of step.stroke.layer old.present) (writes step.painter.job) old.updates) (slice_set old.slots place Free) g p ≡ true
    more g p is inside = subst (λ up. covered_by is_painter old.present up old.updates old.slots g p ≡ true
        → covered_by is_painter old.present up (updates_with_all (canvas_area old.canvas) (parent_of step.stroke.layer old.present) (writes step.painter.job) old.updates) (slice_set old.slots place Free) g p ≡ true)
        (sym (painted_by old step.stroke step.at_head))
        (covered_by_ended is_painter old.present (parent_of step.stroke.layer old.present) (canvas_area old.canvas) old.updates old.slots place step.painter g p step.runs is (grid p inside) inside)

-- where no job is at work it doesn't matter which layer is painted
pub covered_by_idle : (keep : Slot → Bool) (doc : Doc) (up up' : List ℕ) (updates : List Patch) (slots : List Slot) (g : ℕ) (p : Point) → list_any is_painter slots ≡ false
    → covered_by keep doc up updates slots g p ≡ covered_by keep doc up' updates slots g p
covered_by_idle keep doc up up' updates slots g p idle = ap (λ b. queued_for (composes g doc) updates p || b) (go slots idle)
  where
    go : (slots : List Slot) → list_any is_painter slots ≡ false → list_any (λ slot. keep slot && slot_on up g p slot) slots ≡ list_any (λ slot. keep slot && slot_on up' g p slot) slots
    go [] e = refl
    go (Free ∷ slots) e = ap (λ b. (keep Free && false) || b) (go slots e)
    go (Paints w ∷ slots) e = cc
    go (Walks w ∷ slots) e = ap (λ b. (keep (Walks w) && (holds w.patch.rect p && on g (groups_of w))) || b) (go slots e)

-- Finish: by then no job is at work
pub finish_idle : (old new : State) → FinishStep old new → IsOnWay old old.way → no_painter old ≡ true
finish_idle old new step way = by_layer (is_paint step.stroke.layer old.base) refl
  where
    at_work : (n : ℕ) → UnderWay old n → content step.stroke.layer old.base ≡ None → ⊥
    at_work n u e =
        let same : Some step.stroke ≡ Some u.stroke = sym step.at_head ∙ u.at_head in
        let is : step.stroke ≡ u.stroke = cc in
        let some : content step.stroke.layer old.base ≡ Some u.base_layer = ap (λ (t : Stroke). content t.layer old.base) is ∙ u.was in
        clash (sym some ∙ e)
      where
        clash : {A : Type 0} {x : A} → Some x ≡ None → ⊥
        clash e = cc

    by_layer : (b : Bool) → is_paint step.stroke.layer old.base ≡ b → no_painter old ≡ true
    by_layer true e = (step.all_ended e).1
    by_layer false e = by_way old.way way
      where
        by_way : (o : Option ℕ) → IsOnWay old o → no_painter old ≡ true
        by_way None rest = rest.idle
        by_way (Some n) u = absurd (at_work n u (is_some-None (content step.stroke.layer old.base) e))

-- the caches as a stroke finishes
pub caches_finish : (old new : State) → FinishStep old new → IsOnWay old old.way → CachesFold old → CachesFold new
caches_finish old new step way = by_layer (is_paint step.stroke.layer old.base) step.new_is
  where
    idle : list_any is_painter old.slots ≡ false
    idle = not_true _ (finish_idle old new step way)

    by_layer : (b : Bool) → new ≡ after_finish old step.stroke b → CachesFold old → CachesFold new
    by_layer false e = caches_by old new (ap (λ (s : State). s.canvas) e) (λ g h. ap (λ (s : State). grouped g s.present) (sym e) ∙ h)
        (λ g p is inside h. subst (λ s. IsFold s g p) (sym e) (fold_covers (λ c. covered_by_idle any_slot old.present _ _ old.updates old.slots g p idle ∙ c) h))
    by_layer true e = caches_by old new (ap (λ (s : State). s.canvas) e) (λ g h. ap (λ (s : State). grouped g s.present) (sym e) ∙ h)
        (λ g p is inside h. subst (λ s. IsFold s g p) (sym e) (fold_covers (λ c. covered_by_idle any_slot old.present _ _ old.updates old.slots g p idle ∙ c) h))

-- and what running walks hold
pub walks_finish : (old new : State) → FinishStep old new → IsOnWay old old.way → AllByRecursion (WalkStands old) old.slots → AllByRecursion (WalkInside (canvas_area old.canvas)) old.slots → AllByRecursion (WalkIsRight old) old.slots → AllByRecursion (WalkIsRight new) new.slots
walks_finish old new step way stands inside right = by_layer (is_paint step.stroke.layer old.base) step.new_is
  where
    idle : list_any is_painter old.slots ≡ false
    idle = not_true _ (finish_idle old new step way)

    by_layer : (b : Bool) → new ≡ after_finish old step.stroke b → AllByRecursion (WalkIsRight new) new.slots
    by_layer false e = subst (AllByRecursion (WalkIsRight new)) (ap (λ (s : State). s.slots) (sym e))
        (walks_by old new (λ w is path p g read held inside on' same h. subst (λ s. IsRead s w g read p) (sym e) (read_covers (λ c. covered_by_idle is_painter old.present _ _ old.updates old.slots g p idle ∙ c) h)) old.slots stands inside right)
    by_layer true e = subst (AllByRecursion (WalkIsRight new)) (ap (λ (s : State). s.slots) (sym e))
        (walks_by old new (λ w is path p g read held inside on' same h. subst (λ s. IsRead s w g read p) (sym e) (read_covers (λ c. covered_by_idle is_painter old.present _ _ old.updates old.slots g p idle ∙ c) h)) old.slots stands inside right)
