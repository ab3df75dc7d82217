-- What caches and running walks hold, point by point and as a fact of the parts of a state.
use Rattle.std.proofs.Common.{◌≡◌, ℕ, suc, zero, Bool, true, false, ◌&&◌, ◌||◌, List, [], ◌∷◌, Some, map, refl, sym, ap, ◌∙◌, arith, eqb, subst, ◌⊎◌, inl, inr}
use Rattle.std.specs.Prelude.{slice_get, slice_set}
use Rattle.std.specs.Ordering.{nat_cmp}
use Rattle.std.specs.FinMap.{FinMap}
use Rattle.std.specs.List.{list_any, AllByRecursion}
use Rattle.pixel_core.specs.Rgba.{clear}
use Rattle.geom_core.specs.Areas.{holds, Point}
use Rattle.geom_core.specs.Rects.{any_holds}
use Rattle.geom_core.specs.Grid.{key_of}
use Rattle.doc_model.specs.declared.canvas.Walk.TheVariants.{Up}
use Rattle.doc_model.specs.declared.canvas.Patch.{Patch}
use Rattle.doc_model.specs.Layers.{Layer, at}
use Rattle.doc_model.specs.Jobs.{writes}
use Rattle.doc_model.specs.Picture.{Doc, canvas_area}
use Rattle.doc_model.specs.Queues.{queued_for}
use Rattle.geom_core.proofs.Tests.{or_cases, or_left, or_right}
use Rattle.machine_model.specs.State.{Child, Walker, Slot, Free, Paints, Walks, State, head_stroke}
use Rattle.machine_model.specs.Groups.{cache, with_pixels, nodes_in, children_of, path_of, on}
use Rattle.machine_model.specs.Covers.{folded, painted_group, covered, composes, slot_covers}
use Rattle.machine_model.specs.Slots.{is_painter}
use Rattle.machine_model.specs.Guards.{same_pair}
use Rattle.machine_model.specs.Walks.{walk_value}
use Rattle.machine_model.specs.Caches.{CachesFold, WalkReads, WalkIsRight, SamePixels, covered_by_others}
use Rattle.machine_model.specs.Walking.{WalkInside, WalkStands, SameChildren, IsGroupOf}
use Rattle.machine_model.proofs.WalkPaths.{grouped}
use Rattle.std.proofs.lemmas.Bool.Decides.{nat_tests}

-- the groups that a walk composes
abbrev pub groups_of : Walker → List ℕ
groups_of w = map (λ (e : ℕ × List Child). e.0) w.shot

-- whether what stands in a slot composes the group at the point; up is the path of the layer that is painted
abbrev pub slot_on : List ℕ → ℕ → Point → Slot → Bool
slot_on up g p Free = false
slot_on up g p (Paints w) = any_holds (writes w.job) p && on g up
slot_on up g p (Walks w) = holds w.patch.rect p && on g (groups_of w)

-- every slot passes
abbrev pub any_slot : Slot → Bool
any_slot slot = true

-- whether a patch or one of the slots that pass the test composes the group at the point
abbrev pub covered_by : (Slot → Bool) → Doc → List ℕ → List Patch → List Slot → ℕ → Point → Bool
covered_by keep doc up updates slots g p = queued_for (composes g doc) updates p || list_any (λ slot. keep slot && slot_on up g p slot) slots

-- the path of the layer that the stroke under way paints
abbrev pub painted_path : State → List ℕ
painted_path s = path_of (Up (painted_group s (head_stroke s))) s.present

-- tests that agree
pub any_same : {A : Type 0} (f g : A → Bool) (xs : List A) → ((x : A) → f x ≡ g x) → list_any f xs ≡ list_any g xs
any_same f g [] same = refl
any_same f g (x ∷ xs) same = rw (same x, any_same f g xs same) refl

slot_is : (s : State) (g : ℕ) (p : Point) (slot : Slot) → slot_covers s g p slot ≡ slot_on (painted_path s) g p slot
slot_is s g p Free = refl
slot_is s g p (Paints w) = refl
slot_is s g p (Walks w) = refl

-- to be covered, in these words
pub covered_is : (s : State) (g : ℕ) (p : Point) → covered s g p ≡ covered_by any_slot s.present (painted_path s) s.updates s.slots g p
covered_is s g p = ap (λ b. queued_for (composes g s.present) s.updates p || b) (any_same (slot_covers s g p) (λ slot. any_slot slot && slot_on (painted_path s) g p slot) s.slots (λ slot. slot_is s g p slot))

-- to be covered by a patch or a job, in these words
pub others_is : (s : State) (g : ℕ) (p : Point) → covered_by_others s g p ≡ covered_by is_painter s.present (painted_path s) s.updates s.slots g p
others_is s g p = ap (λ b. queued_for (composes g s.present) s.updates p || b) (any_same (λ slot. is_painter slot && slot_covers s g p slot) (λ slot. is_painter slot && slot_on (painted_path s) g p slot) s.slots (λ slot. ap (λ b. is_painter slot && b) (slot_is s g p slot)))

-- the cache of one group at one point
pub record FoldsAt (caches : FinMap nat_cmp Layer) (doc : Doc) (up : List ℕ) (updates : List Patch) (slots : List Slot) (g : ℕ) (p : Point) : Type 0 where
  pub is : (at (cache caches g) p ≡ folded (with_pixels caches (nodes_in g doc)) p clear) ⊎ (covered_by any_slot doc up updates slots g p ≡ true)

-- for the parts of a state
abbrev pub IsFold : State → ℕ → Point → Type 0
IsFold s g p = FoldsAt s.caches s.present (painted_path s) s.updates s.slots g p

-- what one walk has published and read, at one point of one group
pub record ReadsAt (caches : FinMap nat_cmp Layer) (doc : Doc) (up : List ℕ) (updates : List Patch) (slots : List Slot) (w : Walker) (g : ℕ) (read : List Child) (p : Point) : Type 0 where
  pub published : list_any (same_pair g (key_of p)) w.published ≡ true → at (cache caches g) p ≡ walk_value w.shot g p
  pub current : SamePixels (groups_of w) read (with_pixels caches (nodes_in g doc)) p ⊎ (covered_by is_painter doc up updates slots g p ≡ true)

-- for the parts of a state
abbrev pub IsRead : State → Walker → ℕ → List Child → Point → Type 0
IsRead s w g read p = ReadsAt s.caches s.present (painted_path s) s.updates s.slots w g read p

fold_in : (s : State) (g : ℕ) (p : Point) → (at (cache s.caches g) p ≡ folded (children_of s g) p clear) ⊎ (covered s g p ≡ true) → IsFold s g p
fold_in s g p h = record { is = elim h [ inl e ↦ inl e | inr e ↦ inr (sym (covered_is s g p) ∙ e) ] }

-- and back
pub fold_out : (s : State) (g : ℕ) (p : Point) → IsFold s g p → (at (cache s.caches g) p ≡ folded (children_of s g) p clear) ⊎ (covered s g p ≡ true)
fold_out s g p h = elim h.is [ inl e ↦ inl e | inr e ↦ inr (covered_is s g p ∙ e) ]

read_in : (s : State) (w : Walker) (g : ℕ) (read : List Child) (p : Point) → WalkReads s w g read p → IsRead s w g read p
read_in s w g read p h = record { published = h.published; current = elim h.current [ inl e ↦ inl e | inr e ↦ inr (sym (others_is s g p) ∙ e) ] }

read_out : (s : State) (w : Walker) (g : ℕ) (read : List Child) (p : Point) → IsRead s w g read p → WalkReads s w g read p
read_out s w g read p h = record { published = h.published; current = elim h.current [ inl e ↦ inl e | inr e ↦ inr (others_is s g p ∙ e) ] }

-- what holds of the caches from point to point
pub caches_by : (old new : State) → new.canvas ≡ old.canvas → ((g : ℕ) → grouped g new.present ≡ true → grouped g old.present ≡ true)
    → ((g : ℕ) (p : Point) → grouped g old.present ≡ true → holds (canvas_area old.canvas) p ≡ true → IsFold old g p → IsFold new g p) → CachesFold old → CachesFold new
caches_by old new canvas groups step fold g p is inside =
    let is' : grouped g old.present ≡ true = groups g is in
    let inside' : holds (canvas_area old.canvas) p ≡ true = ap (λ c. holds (canvas_area c) p) (sym canvas) ∙ inside in
    fold_out new g p (step g p is' inside' (fold_in old g p (fold g p is' inside')))

-- the group of each entry of a shot is one of its groups
pub all_on : (xs : List (ℕ × List Child)) → AllByRecursion (λ (e : ℕ × List Child). on e.0 (map (λ (e : ℕ × List Child). e.0) xs) ≡ true) xs
all_on xs = go xs (λ g h. h)
  where
    go : (ys : List (ℕ × List Child)) → ((g : ℕ) → on g (map (λ (e : ℕ × List Child). e.0) ys) ≡ true → on g (map (λ (e : ℕ × List Child). e.0) xs) ≡ true) → AllByRecursion (λ (e : ℕ × List Child). on e.0 (map (λ (e : ℕ × List Child). e.0) xs) ≡ true) ys
    go [] sub = tt
    go (y ∷ ys) sub = (sub y.0 (or_left (eqb y.0 y.0) _ (equal_test y.0)), go ys (λ g h. sub g (or_right (eqb y.0 g) _ h)))
      where
        equal_test : (d : ℕ) → eqb d d ≡ true
        equal_test d = grind (arith, nat_tests)

-- three facts of each entry of a shot give a fourth
pub shots_by : (P Q R S : ℕ × List Child → Type 0) → ((e : ℕ × List Child) → P e → Q e → R e → S e) → (xs : List (ℕ × List Child)) → AllByRecursion P xs → AllByRecursion Q xs → AllByRecursion R xs → AllByRecursion S xs
shots_by P Q R S f [] a b c = tt
shots_by P Q R S f (x ∷ xs) a b c = (f x a.0 b.0 c.0, shots_by P Q R S f xs a.1 b.1 c.1)

-- what holds of one walk from point to point
pub walk_by : (old new : State) (w w' : Walker) → w'.shot ≡ w.shot → w'.patch ≡ w.patch
    → AllByRecursion (λ (e : ℕ × List Child). SameChildren e.1 (children_of old e.0)) w.shot
    → ((p : Point) (g : ℕ) (read : List Child) → holds w.patch.rect p ≡ true → on g (groups_of w) ≡ true → SameChildren read (children_of old g) → IsRead old w g read p → IsRead new w' g read p)
    → WalkIsRight old (Walks w) → WalkIsRight new (Walks w')
walk_by old new w w' shot patch same step right p inside =
    let inside' : holds w.patch.rect p ≡ true = ap (λ (q : Patch). holds q.rect p) (sym patch) ∙ inside in
    subst (λ s. AllByRecursion (λ (e : ℕ × List Child). WalkReads new w' e.0 e.1 p) s) (sym shot)
    (shots_by (λ e. on e.0 (groups_of w) ≡ true) (λ e. SameChildren e.1 (children_of old e.0)) (λ e. WalkReads old w e.0 e.1 p) (λ e. WalkReads new w' e.0 e.1 p)
    (λ e a b c. read_out new w' e.0 e.1 p (step p e.0 e.1 inside' a b (read_in old w e.0 e.1 p c))) w.shot (all_on w.shot) same (right p inside'))

-- what holds of all walks from point to point
pub walks_by : (old new : State) → ((w : Walker) → IsGroupOf old.present w.patch.walk → groups_of w ≡ path_of w.patch.walk old.present → (p : Point) (g : ℕ) (read : List Child) → holds w.patch.rect p ≡ true → holds (canvas_area old.canvas) p ≡ true
    → on g (groups_of w) ≡ true → SameChildren read (children_of old g) → IsRead old w g read p → IsRead new w g read p)
    → (slots : List Slot) → AllByRecursion (WalkStands old) slots → AllByRecursion (WalkInside (canvas_area old.canvas)) slots → AllByRecursion (WalkIsRight old) slots → AllByRecursion (WalkIsRight new) slots
walks_by old new step [] stands inside right = tt
walks_by old new step (Free ∷ slots) stands inside right = (tt, walks_by old new step slots stands.1 inside.1 right.1)
walks_by old new step (Paints w ∷ slots) stands inside right = (tt, walks_by old new step slots stands.1 inside.1 right.1)
walks_by old new step (Walks w ∷ slots) stands inside right = (
  walk_by old new w w refl refl stands.0.2 (λ p g read held on' same h. step w stands.0.0 stands.0.1 p g read held (inside.0 p held) on' same h) right.0,
  walks_by old new step slots stands.1 inside.1 right.1,
)

-- the same caches and document, and nothing covered less
pub fold_covers : {caches : FinMap nat_cmp Layer} {doc : Doc} {up up' : List ℕ} {updates updates' : List Patch} {slots slots' : List Slot} {g : ℕ} {p : Point}
    → (covered_by any_slot doc up updates slots g p ≡ true → covered_by any_slot doc up' updates' slots' g p ≡ true) → FoldsAt caches doc up updates slots g p → FoldsAt caches doc up' updates' slots' g p
fold_covers more h = record { is = elim h.is [ inl e ↦ inl e | inr e ↦ inr (more e) ] }

pub read_covers : {caches : FinMap nat_cmp Layer} {doc : Doc} {up up' : List ℕ} {updates updates' : List Patch} {slots slots' : List Slot} {w : Walker} {g : ℕ} {read : List Child} {p : Point}
    → (covered_by is_painter doc up updates slots g p ≡ true → covered_by is_painter doc up' updates' slots' g p ≡ true) → ReadsAt caches doc up updates slots w g read p → ReadsAt caches doc up' updates' slots' w g read p
read_covers more h = record { published = h.published; current = elim h.current [ inl e ↦ inl e | inr e ↦ inr (more e) ] }

-- slots where one was set
pub any_set_grow : {A : Type 0} (test : A → Bool) (xs : List A) (i : ℕ) (x y : A) → slice_get xs i ≡ Some x → test x ≡ false → list_any test xs ≡ true → list_any test (slice_set xs i y) ≡ true
any_set_grow test [] i x y h off any = any
any_set_grow test (z ∷ xs) zero x y h off any = let is : z ≡ x = cc in elim (or_cases (test z) _ any) [ inl e ↦ (let f : test z ≡ false = ap test is ∙ off in absurd (cc)) | inr e ↦ or_right (test y) _ e ]
any_set_grow test (z ∷ xs) (suc i) x y h off any = elim (or_cases (test z) _ any) [ inl e ↦ or_left (test z) _ e | inr e ↦ or_right (test z) _ (any_set_grow test xs i x y h off e) ]

pub any_set_same : {A : Type 0} (test : A → Bool) (xs : List A) (i : ℕ) (x y : A) → slice_get xs i ≡ Some x → test y ≡ test x → list_any test (slice_set xs i y) ≡ list_any test xs
any_set_same test [] i x y h e = refl
any_set_same test (z ∷ xs) zero x y h e = let is : x ≡ z = cc in ap (λ b. b || list_any test xs) (e ∙ ap test is)
any_set_same test (z ∷ xs) (suc i) x y h e = ap (λ b. test z || b) (any_set_same test xs i x y h e)

pub any_set_or : {A : Type 0} (test : A → Bool) (xs : List A) (i : ℕ) (x y : A) → slice_get xs i ≡ Some x → list_any test xs ≡ true → (test x ≡ true) ⊎ (list_any test (slice_set xs i y) ≡ true)
any_set_or test [] i x y h any = inr any
any_set_or test (z ∷ xs) zero x y h any = let is : x ≡ z = cc in elim (or_cases (test z) _ any) [ inl e ↦ inl (ap test is ∙ e) | inr e ↦ inr (or_right (test y) _ e) ]
any_set_or test (z ∷ xs) (suc i) x y h any = elim (or_cases (test z) _ any) [
  | inl e ↦ inr (or_left (test z) _ e)
  | inr e ↦ elim (any_set_or test xs i x y h e) [ inl f ↦ inl f | inr f ↦ inr (or_right (test z) _ f) ]
]

pub any_set_new : {A : Type 0} (test : A → Bool) (xs : List A) (i : ℕ) (x y : A) → slice_get xs i ≡ Some x → test y ≡ true → list_any test (slice_set xs i y) ≡ true
any_set_new test [] i x y h e = cc
any_set_new test (z ∷ xs) zero x y h e = or_left (test y) _ e
any_set_new test (z ∷ xs) (suc i) x y h e = or_right (test z) _ (any_set_new test xs i x y h e)

pub any_found : {A : Type 0} (test : A → Bool) (xs : List A) (i : ℕ) (x : A) → slice_get xs i ≡ Some x → test x ≡ true → list_any test xs ≡ true
any_found test [] i x h e = cc
any_found test (z ∷ xs) zero x h e = let is : z ≡ x = cc in or_left (test z) _ (ap test is ∙ e)
any_found test (z ∷ xs) (suc i) x h e = or_right (test z) _ (any_found test xs i x h e)
