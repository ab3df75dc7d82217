-- A walk that starts keeps what caches and running walks hold.
use Rattle.machine_model.proofs.WalksStand.{shot_groups}
use Rattle.std.proofs.Common.{◌≡◌, ℕ, suc, zero, Bool, true, false, ◌&&◌, not, cond, List, [], ◌∷◌, Some, map, refl, sym, ap, ◌∙◌, subst, ◌⊎◌, inl, inr}
use Rattle.std.specs.Prelude.{slice_get, slice_set}
use Rattle.std.specs.List.{list_any, list_all, AllByRecursion}
use Rattle.geom_core.specs.Areas.{Area, holds, meets, Point}
use Rattle.doc_model.specs.declared.canvas.Patch.{Patch}
use Rattle.doc_model.specs.Layers.{at}
use Rattle.doc_model.specs.Picture.{canvas_area}
use Rattle.doc_model.proofs.Shots.{at-shot_of}
use Rattle.doc_model.proofs.Conflicts.{meets_at}
use Rattle.doc_model.specs.Queues.{queued_for}
use Rattle.geom_core.proofs.Tests.{or_cases, or_left, or_right, none_left, none_right, both_true, and_left, and_right, not_true}
use Rattle.machine_model.specs.State.{Child, Walker, Slot, Free, Paints, Walks, State}
use Rattle.machine_model.specs.Groups.{children_of, path_of, on}
use Rattle.machine_model.specs.Covers.{composes}
use Rattle.machine_model.specs.Slots.{is_painter}
use Rattle.machine_model.specs.Step.{WalkStartStep}
use Rattle.machine_model.specs.Walks.{shots_of, walk_shot, cut_child}
use Rattle.machine_model.specs.Guards.{meets_walker}
use Rattle.machine_model.specs.Effects.{without_nth}
use Rattle.machine_model.specs.Caches.{CachesFold, WalkIsRight, WalkReads, SamePixels}
use Rattle.machine_model.specs.Walking.{WalkStands, walks_apart, all_apart, WalkInside}
use Rattle.machine_model.proofs.Lists.{all_set}
use Rattle.machine_model.proofs.WalkPaths.{grouped}
use Rattle.machine_model.proofs.Covers.{groups_of, slot_on, any_slot, covered_by, painted_path, IsFold, IsRead, caches_by, walk_by, fold_covers, read_covers, any_set_grow, any_set_new}
use Rattle.machine_model.proofs.JobCaches.{either_covers}

-- no point of a walk's patch lies in the rectangle
abbrev pub AwayFrom : Area → Slot → Type 0
AwayFrom rect (Walks w) = (p : Point) → holds w.patch.rect p ≡ true → holds rect p ≡ false
AwayFrom rect slot = Unit {0}

-- a list without one of its items
any_without : {A : Type 0} (test : A → Bool) (xs : List A) (i : ℕ) (x : A) → slice_get xs i ≡ Some x → list_any test xs ≡ true → (test x ≡ true) ⊎ (list_any test (without_nth xs i) ≡ true)
any_without test [] i x h any = absurd (let t : false ≡ true = any in cc)
any_without test (z ∷ xs) zero x h any = let is : x ≡ z = cc in elim (or_cases (test z) _ any) [ inl e ↦ inl (ap test is ∙ e) | inr e ↦ inr e ]
any_without test (z ∷ xs) (suc i) x h any = elim (or_cases (test z) _ any) [
  | inl e ↦ inr (or_left (test z) _ e)
  | inr e ↦ elim (any_without test xs i x h e) [ inl f ↦ inl f | inr f ↦ inr (or_right (test z) _ f) ]
]

-- what the shot has on the patch is what is there
cut_same : (path : List ℕ) (rect : Area) (cs : List Child) (p : Point) → holds rect p ≡ true → SamePixels path (map (cut_child rect) cs) cs p
cut_same path rect [] p h = tt
cut_same path rect (c ∷ cs) p h = ((λ e. at-shot_of (rect ∷ []) c.pixels p ∙ ap (λ b. cond b (at c.pixels p) c.pixels.default_pixel) (or_left (holds rect p) _ h)), cut_same path rect cs p h)

module _ (old new : State) (place : ℕ) (patch : Patch) (step : WalkStartStep old place patch new) where
  -- the walk that starts
  abbrev walker : Walker
  walker = record { serial = old.next; patch = patch; shot = walk_shot old patch; published = [] }

  -- the patches that wait on
  abbrev rest : List Patch
  rest = without_nth old.updates step.i

  -- the slots afterwards
  abbrev slots' : List Slot
  slots' = slice_set old.slots place (Walks walker)

  covers : (g : ℕ) (p : Point) → covered_by any_slot old.present (painted_path old) old.updates old.slots g p ≡ true → covered_by any_slot old.present (painted_path old) rest slots' g p ≡ true
  covers g p = either_covers _ _ _
      (λ e. elim (any_without (λ (q : Patch). on g (path_of q.walk old.present) && holds q.rect p) old.updates step.i patch step.waits e) [
        | inl f ↦ or_right (queued_for (composes g old.present) rest p) _ (any_set_new (λ slot. any_slot slot && slot_on (painted_path old) g p slot) old.slots place Free (Walks walker) step.free
            (both_true (holds patch.rect p) _ (and_right (on g (path_of patch.walk old.present)) _ f) (ap (on g) (shot_groups old patch.rect (path_of patch.walk old.present)) ∙ and_left (on g (path_of patch.walk old.present)) _ f)))
        | inr f ↦ or_left _ _ f
      ])
      (λ e. or_right (queued_for (composes g old.present) rest p) _ (any_set_grow (λ slot. any_slot slot && slot_on (painted_path old) g p slot) old.slots place Free (Walks walker) step.free refl e))

  pub caches_walk_start : CachesFold old → CachesFold new
  caches_walk_start = caches_by old new (ap (λ (s : State). s.canvas) step.new_is) (λ g h. ap (λ (s : State). grouped g s.present) (sym step.new_is) ∙ h)
      (λ g p is inside h. subst (λ s. IsFold s g p) (sym step.new_is) (fold_covers (covers g p) h))

  -- away from the patch that leaves the list
  others : (g : ℕ) (p : Point) → holds patch.rect p ≡ false → covered_by is_painter old.present (painted_path old) old.updates old.slots g p ≡ true → covered_by is_painter old.present (painted_path old) rest slots' g p ≡ true
  others g p out = either_covers _ _ _
      (λ e. elim (any_without (λ (q : Patch). on g (path_of q.walk old.present) && holds q.rect p) old.updates step.i patch step.waits e) [
        | inl f ↦ (let t : holds patch.rect p ≡ true = and_right (on g (path_of patch.walk old.present)) _ f in absurd (cc))
        | inr f ↦ or_left _ _ f
      ])
      (λ e. or_right (queued_for (composes g old.present) rest p) _ (any_set_grow (λ slot. is_painter slot && slot_on (painted_path old) g p slot) old.slots place Free (Walks walker) step.free refl e))

  away : (slots : List Slot) → list_any (meets_walker patch.rect) slots ≡ false → AllByRecursion (AwayFrom patch.rect) slots
  away [] e = tt
  away (Free ∷ slots) e = (tt, away slots e)
  away (Paints w ∷ slots) e = (tt, away slots e)
  away (Walks w ∷ slots) e = ((λ p held. apart p held (holds patch.rect p) refl), away slots (none_right (meets patch.rect w.patch.rect) _ e))
    where
      apart : (p : Point) → holds w.patch.rect p ≡ true → (b : Bool) → holds patch.rect p ≡ b → b ≡ false
      apart p held true f = absurd (let t : meets patch.rect w.patch.rect ≡ true = meets_at patch.rect w.patch.rect p f held in let u : meets patch.rect w.patch.rect ≡ false = none_left (meets patch.rect w.patch.rect) _ e in cc)
      apart p held false f = refl

  new_walk : WalkIsRight new (Walks walker)
  new_walk p held = go (path_of patch.walk old.present)
    where
      reads : (g : ℕ) → WalkReads new walker g (map (cut_child patch.rect) (children_of old g)) p
      reads g = record {
        published = λ e. absurd (let t : false ≡ true = e in cc);
        current = inl (subst (λ s. SamePixels (groups_of walker) (map (cut_child patch.rect) (children_of old g)) (children_of s g) p) (sym step.new_is) (cut_same (groups_of walker) patch.rect (children_of old g) p held));
      }

      go : (gs : List ℕ) → AllByRecursion (λ (e : ℕ × List Child). WalkReads new walker e.0 e.1 p) (shots_of old patch.rect gs)
      go [] = tt
      go (g ∷ gs) = (reads g, go gs)

  pub walks_walk_start : AllByRecursion (WalkStands old) old.slots → AllByRecursion (WalkInside (canvas_area old.canvas)) old.slots → AllByRecursion (WalkIsRight old) old.slots → AllByRecursion (WalkIsRight new) new.slots
  walks_walk_start stands inside right = subst (AllByRecursion (WalkIsRight new)) (ap (λ (s : State). s.slots) (sym step.new_is))
      (all_set (WalkIsRight new) old.slots place (Walks walker) (each old.slots stands inside (away old.slots step.avoids) right) new_walk)
    where
      each : (slots : List Slot) → AllByRecursion (WalkStands old) slots → AllByRecursion (WalkInside (canvas_area old.canvas)) slots → AllByRecursion (AwayFrom patch.rect) slots → AllByRecursion (WalkIsRight old) slots → AllByRecursion (WalkIsRight new) slots
      each [] a b c d = tt
      each (Free ∷ slots) a b c d = (tt, each slots a.1 b.1 c.1 d.1)
      each (Paints w ∷ slots) a b c d = (tt, each slots a.1 b.1 c.1 d.1)
      each (Walks w ∷ slots) a b c d = (
        walk_by old new w w refl refl a.0.2 (λ p g read held on' same h. subst (λ s. IsRead s w g read p) (sym step.new_is) (read_covers (others g p (c.0 p held)) h)) d.0,
        each slots a.1 b.1 c.1 d.1,
      )

-- the slots but one
abbrev AllBut : (Slot → Type 0) → List Slot → ℕ → Type 0
AllBut P [] i = Unit {0}
AllBut P (x ∷ xs) zero = AllByRecursion P xs
AllBut P (x ∷ xs) (suc i) = P x × AllBut P xs i

apart_points : (a b : Area) → not (meets a b) ≡ true → (p : Point) → holds b p ≡ true → holds a p ≡ false
apart_points a b e p held = go (holds a p) refl
  where
    go : (t : Bool) → holds a p ≡ t → t ≡ false
    go true f = absurd (let m : meets a b ≡ true = meets_at a b p f held in let u : meets a b ≡ false = not_true _ e in cc)
    go false f = refl

apart_points' : (a b : Area) → not (meets a b) ≡ true → (p : Point) → holds a p ≡ true → holds b p ≡ false
apart_points' a b e p held = go (holds b p) refl
  where
    go : (t : Bool) → holds b p ≡ t → t ≡ false
    go true f = absurd (let m : meets a b ≡ true = meets_at a b p held f in let u : meets a b ≡ false = not_true _ e in cc)
    go false f = refl

apart_after : (w : Walker) (slots : List Slot) → list_all (walks_apart (Walks w)) slots ≡ true → AllByRecursion (AwayFrom w.patch.rect) slots
apart_after w [] e = tt
apart_after w (Free ∷ slots) e = (tt, apart_after w slots e)
apart_after w (Paints v ∷ slots) e = (tt, apart_after w slots e)
apart_after w (Walks v ∷ slots) e = (apart_points w.patch.rect v.patch.rect (and_left _ _ e), apart_after w slots (and_right (not (meets w.patch.rect v.patch.rect)) _ e))

apart_before : (slot : Slot) (slots : List Slot) (i : ℕ) (w : Walker) → list_all (walks_apart slot) slots ≡ true → slice_get slots i ≡ Some (Walks w) → AwayFrom w.patch.rect slot
apart_before Free slots i w e h = tt
apart_before (Paints v) slots i w e h = tt
apart_before (Walks v) [] i w e h = cc
apart_before (Walks v) (x ∷ slots) zero w e h = let is : x ≡ Walks w = cc in let m : walks_apart (Walks v) (Walks w) ≡ true = ap (walks_apart (Walks v)) (sym is) ∙ and_left (walks_apart (Walks v) x) _ e in apart_points' v.patch.rect w.patch.rect m
apart_before (Walks v) (x ∷ slots) (suc i) w e h = apart_before (Walks v) slots i w (and_right (walks_apart (Walks v) x) _ e) h

-- a point of another walk's patch isn't in this one's
pub apart_but : (slots : List Slot) (i : ℕ) (w : Walker) → all_apart slots ≡ true → slice_get slots i ≡ Some (Walks w) → AllBut (AwayFrom w.patch.rect) slots i
apart_but [] i w e h = tt
apart_but (x ∷ slots) zero w e h = let is : x ≡ Walks w = cc in apart_after w slots (ap (λ s. list_all (walks_apart s) slots) (sym is) ∙ and_left (list_all (walks_apart x) slots) _ e)
apart_but (x ∷ slots) (suc i) w e h = (apart_before x slots i w (and_left (list_all (walks_apart x) slots) _ e) h, apart_but slots i w (and_right (list_all (walks_apart x) slots) _ e) h)

-- all slots but one, which is set
pub but_set : (old new : State) (Q : Slot → Type 0) → ((w : Walker) → WalkStands old (Walks w) → Q (Walks w) → WalkIsRight old (Walks w) → WalkIsRight new (Walks w)) → (slots : List Slot) (i : ℕ) (slot : Slot)
    → AllByRecursion (WalkStands old) slots → AllBut Q slots i → AllByRecursion (WalkIsRight old) slots → WalkIsRight new slot → AllByRecursion (WalkIsRight new) (slice_set slots i slot)
but_set old new Q f [] i slot a b c d = tt
but_set old new Q f (x ∷ slots) zero slot a b c d = (d, all slots a.1 b c.1)
  where
    all : (slots : List Slot) → AllByRecursion (WalkStands old) slots → AllByRecursion Q slots → AllByRecursion (WalkIsRight old) slots → AllByRecursion (WalkIsRight new) slots
    all [] a b c = tt
    all (Free ∷ slots) a b c = (tt, all slots a.1 b.1 c.1)
    all (Paints v ∷ slots) a b c = (tt, all slots a.1 b.1 c.1)
    all (Walks v ∷ slots) a b c = (f v a.0 b.0 c.0, all slots a.1 b.1 c.1)
but_set old new Q f (Free ∷ slots) (suc i) slot a b c d = (tt, but_set old new Q f slots i slot a.1 b.1 c.1 d)
but_set old new Q f (Paints v ∷ slots) (suc i) slot a b c d = (tt, but_set old new Q f slots i slot a.1 b.1 c.1 d)
but_set old new Q f (Walks v ∷ slots) (suc i) slot a b c d = (f v a.0 b.0 c.0, but_set old new Q f slots i slot a.1 b.1 c.1 d)
