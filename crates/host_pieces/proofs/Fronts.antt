-- The first items of a list.
use Rattle.std.proofs.Common.{◌≡◌, ℕ, suc, zero, ◌+◌, Some, List, [], ◌∷◌, ◌++◌, take, length, sym, ap, ◌∙◌}
use Rattle.std.specs.Prelude.{slice_get}
use Rattle.geom_core.proofs.Tests.{add_one, length_more}
use Rattle.host_pieces.specs.Fronts.{IsFront}

next_suc : {A : Type 0} (xs : List A) (i : ℕ) (x : A) → slice_get xs i ≡ Some x → take (suc i) xs ≡ take i xs ++ x ∷ []
next_suc [] i x e = cc
next_suc (y ∷ xs) zero x e = let same : y ≡ x = cc in ap (λ z. z ∷ []) same
next_suc (y ∷ xs) (suc i) x e = ap (λ zs. y ∷ zs) (next_suc xs i x e)

-- the first items, and the next one
pub next_taken : {A : Type 0} (xs : List A) (i : ℕ) (x : A) → slice_get xs i ≡ Some x → take (i + 1) xs ≡ take i xs ++ x ∷ []
next_taken xs i x e = ap (λ n. take n xs) (add_one i) ∙ next_suc xs i x e

module _ {A : Type 0} (all some : List A) (front : IsFront all some) where
  pub front_more : (i : ℕ) (x : A) → length some ≡ i → slice_get all i ≡ Some x → IsFront all (some ++ x ∷ [])
  front_more i x n at =
      ap (λ ys. ys ++ x ∷ []) (front ∙ ap (λ k. take k all) n) ∙ sym (next_suc all i x at) ∙ ap (λ k. take k all) (sym (length_more some x ∙ ap suc n))
