-- Lists of views after a change of one, and sums over them.
use Rattle.std.proofs.Common.{◌≡◌, ◌≢◌, ℕ, zero, suc, ◌+◌, ◌*◌, ◌≤◌, List, [], ◌∷◌, ◌++◌, set, refl, sym, ap, ◌∙◌, subst, ⊎_elim, arith}
use Rattle.std.specs.List.{sum_by}
use Rattle.std.proofs.lemmas.List.Sums.{sum_by-cons}
use mathlib.Core.Option.{some, some-ne-none, some-injective}
use lib.ListN.{get_elem?}
use Rattle.atomic_table.proofs.Lists.{at_set, at_snoc, set_else}

both_few : (a b c d m n k : ℕ) → a ≤ c * k → b ≤ d * k → m ≡ a + b → n ≡ c + d → m ≤ n * k
both_few a b c d m n k h i e f = let p : a + b ≤ (c + d) * k = grind arith in rw (e, f) p

module _ {A : Type 0} where
  -- the sum after a change of one
  pub sum_set : (f : A → ℕ) (views : List A) (j : ℕ) (v w : A) → get_elem? views j ≡ some v → sum_by f (set views j w) + f v ≡ sum_by f views + f w
  sum_set f [] j v w at = absurd (some-ne-none v (sym at))
  sum_set f (u ∷ us) zero v w at = let e : f u ≡ f v = ap f (some-injective _ _ at) in omega (arith, e, sum_by-cons f u us, sum_by-cons f w us)
  sum_set f (u ∷ us) (suc j) v w at = omega (arith, sum_set f us j v w at, sum_by-cons f u us, sum_by-cons f u (set us j w))

  -- the sum stays where the change leaves the number
  pub sum_same : (f : A → ℕ) (views : List A) (j : ℕ) (v w : A) → get_elem? views j ≡ some v → f w ≡ f v → sum_by f (set views j w) ≡ sum_by f views
  sum_same f views j v w at same = omega (arith, sum_set f views j v w at, same)

  pub sum_at : (f : A → ℕ) (views : List A) (j : ℕ) (v : A) → get_elem? views j ≡ some v → f v ≤ sum_by f views
  sum_at f [] j v at = absurd (some-ne-none v (sym at))
  sum_at f (u ∷ us) zero v at = let e : f u ≡ f v = ap f (some-injective _ _ at) in omega (arith, e, sum_by-cons f u us)
  sum_at f (u ∷ us) (suc j) v at = omega (arith, sum_at f us j v at, sum_by-cons f u us)

  pub sum_two : (f : A → ℕ) (views : List A) (i j : ℕ) (u v : A) → i ≢ j → get_elem? views i ≡ some u → get_elem? views j ≡ some v → f u + f v ≤ sum_by f views
  sum_two f [] i j u v other a b = absurd (some-ne-none u (sym a))
  sum_two f (x ∷ xs) zero zero u v other a b = absurd (other refl)
  sum_two f (x ∷ xs) zero (suc j) u v other a b = let e : f x ≡ f u = ap f (some-injective _ _ a) in omega (arith, e, sum_at f xs j v b, sum_by-cons f x xs)
  sum_two f (x ∷ xs) (suc i) zero u v other a b = let e : f x ≡ f v = ap f (some-injective _ _ b) in omega (arith, e, sum_at f xs i u a, sum_by-cons f x xs)
  sum_two f (x ∷ xs) (suc i) (suc j) u v other a b = omega (arith, sum_two f xs i j u v (λ e. other (ap suc e)) a b, sum_by-cons f x xs)

  pub sum_few : (f g : A → ℕ) (k : ℕ) (views : List A) → ((j : ℕ) (v : A) → get_elem? views j ≡ some v → f v ≤ g v * k) → sum_by f views ≤ sum_by g views * k
  sum_few f g k [] h = omega arith
  sum_few f g k (v ∷ vs) h = both_few (f v) (sum_by f vs) (g v) (sum_by g vs) (sum_by f (v ∷ vs)) (sum_by g (v ∷ vs)) k (h 0 v refl) (sum_few f g k vs (λ j u at. h (suc j) u at)) (sum_by-cons f v vs) (sum_by-cons g v vs)

  sum_none : (f : A → ℕ) (views : List A) → ((j : ℕ) (u : A) → get_elem? views j ≡ some u → f u ≡ 0) → sum_by f views ≡ 0
  sum_none f [] zeros = refl
  sum_none f (u ∷ us) zeros = omega (arith, zeros 0 u refl, sum_none f us (λ j x there. zeros (suc j) x there), sum_by-cons f u us)

  -- where the others have none, one has the sum
  pub sum_only : (f : A → ℕ) (views : List A) (k : ℕ) (v : A) → get_elem? views k ≡ some v → ((j : ℕ) (u : A) → j ≢ k → get_elem? views j ≡ some u → f u ≡ 0) → sum_by f views ≡ f v
  sum_only f [] k v at zeros = absurd (some-ne-none v (sym at))
  sum_only f (u ∷ us) zero v at zeros = let e : f u ≡ f v = ap f (some-injective _ _ at) in omega (arith, e, sum_none f us (λ j x there. zeros (suc j) x (λ same. omega arith) there), sum_by-cons f u us)
  sum_only f (u ∷ us) (suc k) v at zeros = omega (arith, sum_only f us k v at (λ j x other there. zeros (suc j) x (λ same. other (omega (arith, same))) there), zeros 0 u (λ same. omega arith) refl, sum_by-cons f u us)

  -- what holds of the new view and of the others holds of each
  pub each_set : (P : ℕ → A → Type 0) (views : List A) (k : ℕ) (w : A) → P k w → ((j : ℕ) (u : A) → j ≢ k → get_elem? views j ≡ some u → P j u) → (j : ℕ) (u : A) → get_elem? (set views k w) j ≡ some u → P j u
  each_set P views k w new others j u at = ⊎_elim
      (λ (x : (j ≡ k) × (w ≡ u)). subst (λ (y : A). P j y) x.1 (subst (λ (i : ℕ). P i w) (sym x.0) new))
      (λ (x : (j ≢ k) × (get_elem? views j ≡ some u)). others j u x.0 x.1)
      (at_set views k j w u at)

  pub each_snoc : (P : A → Type 0) (views : List A) (w : A) → P w → ((j : ℕ) (u : A) → get_elem? views j ≡ some u → P u) → (j : ℕ) (u : A) → get_elem? (views ++ w ∷ []) j ≡ some u → P u
  each_snoc P views w new others j u at = ⊎_elim
      (λ (x : get_elem? views j ≡ some u). others j u x)
      (λ (x : w ≡ u). subst P x new)
      (at_snoc views w u j at)

  pub get_set : (views : List A) (j : ℕ) (v w : A) → get_elem? views j ≡ some v → get_elem? (set views j w) j ≡ some w
  get_set [] j v w at = absurd (some-ne-none v (sym at))
  get_set (u ∷ us) zero v w at = refl
  get_set (u ∷ us) (suc j) v w at = get_set us j v w at

  pub get_other : (views : List A) (j k : ℕ) (w x : A) → k ≢ j → get_elem? views k ≡ some x → get_elem? (set views j w) k ≡ some x
  get_other views j k w x other at = set_else views j k w other ∙ at

  pub one_view : (views : List A) (i j : ℕ) (u v : A) → get_elem? views i ≡ some u → get_elem? views j ≡ some v → i ≡ j → u ≡ v
  one_view views i j u v a b e = some-injective _ _ (sym a ∙ (ap (λ n. get_elem? views n) e ∙ b))
