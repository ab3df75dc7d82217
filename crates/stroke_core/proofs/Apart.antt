-- Jobs whose bounds have no point in common don't conflict.
use Rattle.std.proofs.Common.{◌≡◌, ℕ, suc, zero, ◌+◌, ◌-◌, ◌<◌, ◌≤◌, Bool, true, false, ◌&&◌, ◌||◌, not, cond, List, [], ◌∷◌, ◌++◌, Some, None, length, refl, sym, ap, ◌∙◌, arith, subst, inl, inr, ◌⊎◌}
use Rattle.std.specs.Prelude.{slice_get, slice_index, slice_index_or, nat_le, ℤ, pos, ◌+ℤ◌, ◌-ℤ◌, ◌≤ℤ◌, int_lt, All, position, drop, take}
use Rattle.std.specs.List.{list_any}
use borrow.Author.Differences.{ints}
use Rattle.std.proofs.lemmas.Bool.Decides.{nat_tests}
use Rattle.std.proofs.lemmas.List.{length-append}
use Rattle.std.proofs.lemmas.List.Folds.{list_any_none}
use Rattle.std.proofs.Math.ListN.{get_or-append}
use Rattle.std.proofs.Math.Seq.{get_or-append_seam}
use Rattle.geom_core.proofs.Tests.{true_or_false, and_left, and_right, both_true}
use Rattle.geom_core.specs.Areas.{Area, meets, right, bottom}
use Rattle.doc_model.specs.Strokes.{any_meet}
use Rattle.stroke_core.specs.declared.bound.Bound.{Bound}
use Rattle.stroke_core.specs.Bounds.{LiesIn, Encloses, AreEdges, near, bound_at}
use Rattle.stroke_core.specs.Marks.{Marks, marks_clash}
use Rattle.stroke_core.proofs.FirstPlace.{position_none_within}

-- along one axis
cross : (al ar bl br n m : ℕ) (x y : ℤ) → (pos al -ℤ pos 16384) ≤ℤ x → (x +ℤ pos n) ≤ℤ (pos (ar + 1) -ℤ pos 16384) → (pos bl -ℤ pos 16384) ≤ℤ y → (y +ℤ pos m) ≤ℤ (pos (br + 1) -ℤ pos 16384)
    → (int_lt x (y +ℤ pos m) && int_lt y (x +ℤ pos n)) ≡ true → (nat_le al br && nat_le bl ar) ≡ true
cross al ar bl br n m x y a b c d h = grind (arith, ints, nat_tests)

met : (a b : Bound) (x y : Area) → LiesIn a x → LiesIn b y → meets x y ≡ true → near a b ≡ true
met a b x y p q m = both_true _ _
    (cross a.left a.right b.left b.right x.w y.w x.x y.x p.left p.right q.left q.right (and_left _ _ m))
    (cross a.top a.bottom b.top b.bottom x.h y.h x.y y.y p.top p.bottom q.top q.bottom (and_right _ _ m))

apart : (a b : Bound) (x y : Area) → near a b ≡ false → LiesIn a x → LiesIn b y → meets x y ≡ false
apart a b x y n p q = elim (true_or_false (meets x y)) [ inl e ↦ (let t : near a b ≡ true = met a b x y p q e in cc) | inr e ↦ e ]

all_apart : (a b : Bound) (xs ys : List Area) → near a b ≡ false → All (LiesIn a) xs → All (LiesIn b) ys → any_meet xs ys ≡ false
all_apart a b xs ys n p q = list_any_none (λ x. list_any (λ y. meets x y) ys) xs (λ k d l. list_any_none (λ y. meets (slice_index_or xs k d) y) ys (λ i e h. apart a b (slice_index_or xs k d) (slice_index_or ys i e) n (p k d l) (q i e h)))

pub and_comm : (a b : Bool) → (a && b) ≡ (b && a)
and_comm true true = refl
and_comm true false = refl
and_comm false true = refl
and_comm false false = refl

meets_comm : (a b : Area) → meets a b ≡ meets b a
meets_comm a b i = and_comm (int_lt a.x (right b)) (int_lt b.x (right a)) i && and_comm (int_lt a.y (bottom b)) (int_lt b.y (bottom a)) i

meet_more : (xs ys : List Area) (y : Area) → any_meet xs (y ∷ ys) ≡ (list_any (λ x. meets y x) xs || any_meet xs ys)
meet_more [] ys y = refl
meet_more (x ∷ xs) ys y = (λ i. (meets_comm x y i || list_any (λ b. meets x b) ys) || meet_more xs ys y i) ∙ turn (meets y x) (list_any (λ b. meets x b) ys) (list_any (λ x. meets y x) xs) (any_meet xs ys)
  where
    turn : (a b c d : Bool) → ((a || b) || (c || d)) ≡ ((a || c) || (b || d))
    turn true b c d = refl
    turn false true true d = refl
    turn false true false d = refl
    turn false false c d = refl

any_meet_comm : (xs ys : List Area) → any_meet xs ys ≡ any_meet ys xs
any_meet_comm [] [] = refl
any_meet_comm (x ∷ xs) [] = any_meet_comm xs []
any_meet_comm xs (y ∷ ys) = meet_more xs ys y ∙ ap (λ b. list_any (λ x. meets y x) xs || b) (any_meet_comm xs ys)

-- where both write all that they read
pub one_way : (reads writes reads' writes' : List Area) → writes ≡ reads → writes' ≡ reads' → any_meet writes reads' ≡ (any_meet writes reads' || any_meet writes' reads)
one_way reads writes reads' writes' e f = rw (e, f) (same (any_meet reads reads') ∙ ap (λ b. any_meet reads reads' || b) (any_meet_comm reads reads'))
  where
    same : (b : Bool) → b ≡ (b || b)
    same true = refl
    same false = refl

near_comm : (a b : Bound) → near a b ≡ near b a
near_comm a b i = and_comm (nat_le a.left b.right) (nat_le b.left a.right) i && and_comm (nat_le a.top b.bottom) (nat_le b.top a.bottom) i

pub no_clash : (a b : Bound) (m n : Marks) → Encloses a m → Encloses b n → near a b ≡ false → marks_clash m n ≡ false
no_clash a b m n p q e =
    rw (all_apart a b m.writes n.reads e p.writes q.reads, all_apart b a n.writes m.reads (near_comm b a ∙ e) q.writes p.reads) (none (not (m.unique && n.unique)))
  where
    none : (t : Bool) → (t && false) ≡ false
    none true = refl
    none false = refl

-- the marks at a place don't clash with a job whose bound isn't near
at_place : (marks : List Marks) (lefts unique rights tops bottoms : List ℕ) (new m : Marks) (b : Bound) (k : ℕ) (u : Bool) → AreEdges marks lefts unique rights tops bottoms → Encloses b new → new.unique ≡ u → slice_get marks k ≡ Some m
    → near (bound_at (cond u unique lefts) rights tops bottoms k) b ≡ false → marks_clash m new ≡ false
at_place marks lefts unique rights tops bottoms new m b k false h r u e n = no_clash _ b m new (h.bounded k m e) r n
at_place marks lefts unique rights tops bottoms new m b k true h r u e n = elim (true_or_false m.unique) [
  | inl v ↦ rw (v, u) refl
  | inr v ↦ no_clash (bound_at lefts rights tops bottoms k) b m new (h.bounded k m e) r (ap (λ l. near (record { left = l; right = slice_index rights k; top = slice_index tops k; bottom = slice_index bottoms k }) b) (sym (h.seen k m e v)) ∙ n)
]

-- where no bound of a block is near, no job of it clashes
pub block_apart : (marks : List Marks) (lefts unique rights tops bottoms : List ℕ) (new : Marks) (b : Bound) (from to : ℕ) → AreEdges marks lefts unique rights tops bottoms → Encloses b new
    → ((k : ℕ) → from ≤ k → k < to → near (bound_at (cond new.unique unique lefts) rights tops bottoms k) b ≡ false) → position (λ f. marks_clash f new) (take (to - from) (drop from marks)) ≡ None
block_apart marks lefts unique rights tops bottoms new b from to h r n = position_none_within (λ f. marks_clash f new) from to marks (λ k m a l e. at_place marks lefts unique rights tops bottoms new m b k new.unique h r refl e (n k a l))

-- an element of a list with one more
abbrev pub IsOld : {A : Type 0} → List A → A → ℕ → A → Type 0
IsOld xs x k y = ((k < length xs) × (slice_get xs k ≡ Some y)) ⊎ ((k ≡ length xs) × (y ≡ x))

pub old_or_last : {A : Type 0} (xs : List A) (x : A) (k : ℕ) (y : A) → slice_get (xs ++ x ∷ []) k ≡ Some y → IsOld xs x k y
old_or_last [] x zero y e = inr (refl, cc)
old_or_last [] x (suc k) y e = cc
old_or_last (z ∷ xs) x zero y e = inl (omega arith, e)
old_or_last (z ∷ xs) x (suc k) y e = elim (old_or_last xs x k y e) [ inl t ↦ inl (omega (arith, t.0), t.1) | inr t ↦ inr (ap suc t.0, t.1) ]

index_old : (xs : List ℕ) (n x k : ℕ) → length xs ≡ n → k < n → slice_index (xs ++ x ∷ []) k ≡ slice_index xs k
index_old xs n x k e l = get_or-append xs (x ∷ []) 0 k (omega arith)

index_last : (xs : List ℕ) (n x k : ℕ) → length xs ≡ n → k ≡ n → slice_index (xs ++ x ∷ []) k ≡ x
index_last xs n x k e l = ap (slice_index (xs ++ x ∷ [])) (l ∙ sym e) ∙ get_or-append_seam xs x [] 0

length_more : (xs : List ℕ) (marks : List Marks) (x : ℕ) (m : Marks) → length xs ≡ length marks → length (xs ++ x ∷ []) ≡ length (marks ++ m ∷ [])
length_more xs marks x m e = simp length-append (omega arith)

-- one more bound
pub edges_more : (marks : List Marks) (lefts unique rights tops bottoms : List ℕ) (m : Marks) (b : Bound) (l : ℕ) → AreEdges marks lefts unique rights tops bottoms → Encloses b m → (m.unique ≡ false → l ≡ b.left)
    → AreEdges (marks ++ m ∷ []) (lefts ++ b.left ∷ []) (unique ++ l ∷ []) (rights ++ b.right ∷ []) (tops ++ b.top ∷ []) (bottoms ++ b.bottom ∷ [])
edges_more marks lefts unique rights tops bottoms m b l h r same = record {
  lefts_len = length_more lefts marks b.left m h.lefts_len;
  unique_len = length_more unique marks l m h.unique_len;
  rights_len = length_more rights marks b.right m h.rights_len;
  tops_len = length_more tops marks b.top m h.tops_len;
  bottoms_len = length_more bottoms marks b.bottom m h.bottoms_len;
  bounded = λ k n e. elim (old_or_last marks m k n e) [
    | inl t ↦ subst (λ (b : Bound). Encloses b n) (sym (old_bound k t.0)) (h.bounded k n t.1)
    | inr t ↦ subst (λ (b : Bound). Encloses b n) (sym (last_bound k t.0)) (subst (λ (m : Marks). Encloses b m) (sym t.1) r)
  ];
  seen = λ k n e u. elim (old_or_last marks m k n e) [
    | inl t ↦ index_old unique (length marks) l k h.unique_len t.0 ∙ h.seen k n t.1 u ∙ sym (index_old lefts (length marks) b.left k h.lefts_len t.0)
    | inr t ↦ index_last unique (length marks) l k h.unique_len t.0 ∙ same (sym (ap (λ (m : Marks). m.unique) t.1) ∙ u) ∙ sym (index_last lefts (length marks) b.left k h.lefts_len t.0)
  ];
}
  where
    old_bound : (k : ℕ) → k < length marks → bound_at (lefts ++ b.left ∷ []) (rights ++ b.right ∷ []) (tops ++ b.top ∷ []) (bottoms ++ b.bottom ∷ []) k ≡ bound_at lefts rights tops bottoms k
    old_bound k a i = record {
      left = index_old lefts (length marks) b.left k h.lefts_len a i;
      right = index_old rights (length marks) b.right k h.rights_len a i;
      top = index_old tops (length marks) b.top k h.tops_len a i;
      bottom = index_old bottoms (length marks) b.bottom k h.bottoms_len a i;
    }

    last_bound : (k : ℕ) → k ≡ length marks → bound_at (lefts ++ b.left ∷ []) (rights ++ b.right ∷ []) (tops ++ b.top ∷ []) (bottoms ++ b.bottom ∷ []) k ≡ b
    last_bound k a i = record {
      left = index_last lefts (length marks) b.left k h.lefts_len a i;
      right = index_last rights (length marks) b.right k h.rights_len a i;
      top = index_last tops (length marks) b.top k h.tops_len a i;
      bottom = index_last bottoms (length marks) b.bottom k h.bottoms_len a i;
    }

pub edges_none : AreEdges [] [] [] [] [] []
edges_none = record {
  lefts_len = refl;
  unique_len = refl;
  rights_len = refl;
  tops_len = refl;
  bottoms_len = refl;
  bounded = λ k m e. cc;
  seen = λ k m e u. cc;
}
