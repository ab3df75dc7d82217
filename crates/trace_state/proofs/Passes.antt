-- Passes over a list, by what is left of it.
use Rattle.std.proofs.Common.{◌≡◌, ℕ, suc, zero, ◌+◌, Bool, true, false, ◌&&◌, not, cond, List, [], ◌∷◌, ◌++◌, map, take, drop, Some, sym, ap, ◌∙◌, arith}
use Rattle.std.specs.Prelude.{slice_get, slice_set}
use Rattle.std.specs.List.{list_all, position_or_len}
use Rattle.update_queue.proofs.Elements.{drop_here}

module _ {A : Type 0} (f : A → Bool) (xs : List A) (i : ℕ) (x : A) (at : slice_get xs i ≡ Some x) where
  pub all_passed : f x ≡ true → list_all f (drop i xs) ≡ list_all f xs → list_all f (drop (i + 1) xs) ≡ list_all f xs
  all_passed on so_far = sym (ap (list_all f) (drop_here xs i x at) ∙ ap (λ b. b && list_all f (drop (i + 1) xs)) on) ∙ so_far

  pub all_failed : f x ≡ false → list_all f (drop i xs) ≡ list_all f xs → false ≡ list_all f xs
  all_failed off so_far = sym (ap (list_all f) (drop_here xs i x at) ∙ ap (λ b. b && list_all f (drop (i + 1) xs)) off) ∙ so_far

-- one that fits stands at its place
pub found_here : {A : Type 0} (f : A → Bool) (xs : List A) (i : ℕ) (x : A) → slice_get xs i ≡ Some x → f x ≡ true → position_or_len f xs ≡ i + position_or_len f (drop i xs) → i ≡ position_or_len f xs
found_here f xs i x at fits so_far =
    let first : position_or_len f (drop i xs) ≡ 0 = ap (position_or_len f) (drop_here xs i x at) ∙ ap (λ b. cond (not b) (1 + position_or_len f (drop (i + 1) xs)) 0) fits in
    omega (arith, first, so_far)

-- one that doesn't fit is passed
pub not_here : {A : Type 0} (f : A → Bool) (xs : List A) (i : ℕ) (x : A) → slice_get xs i ≡ Some x → f x ≡ false → position_or_len f xs ≡ i + position_or_len f (drop i xs) → position_or_len f xs ≡ (i + 1) + position_or_len f (drop (i + 1) xs)
not_here f xs i x at off so_far =
    let first : position_or_len f (drop i xs) ≡ 1 + position_or_len f (drop (i + 1) xs) = ap (position_or_len f) (drop_here xs i x at) ∙ ap (λ b. cond (not b) (1 + position_or_len f (drop (i + 1) xs)) 0) off in
    omega (arith, first, so_far)

-- a change of each element, made up to one place more
pub changed_here : {A : Type 0} (f : A → A) (old new : List A) (i : ℕ) (x : A) (whole : List A) → slice_get old i ≡ Some x → new ≡ slice_set old i (f x) → take i old ++ map f (drop i old) ≡ whole → take (i + 1) new ++ map f (drop (i + 1) new) ≡ whole
changed_here {A = A} f old new i x whole at is so_far = ap (λ xs. take (i + 1) xs ++ map f (drop (i + 1) xs)) is ∙ step old i x at ∙ so_far
  where
    step : (xs : List A) (k : ℕ) (y : A) → slice_get xs k ≡ Some y → take (k + 1) (slice_set xs k (f y)) ++ map f (drop (k + 1) (slice_set xs k (f y))) ≡ take k xs ++ map f (drop k xs)
    step [] k y h = cc
    step (z ∷ xs) zero y h = let same : z ≡ y = cc in ap (λ v. f v ∷ map f xs) (sym same)
    step (z ∷ xs) (suc k) y h =
        (let e : suc k + 1 ≡ suc (k + 1) = omega arith in ap (λ n. take n (z ∷ slice_set xs k (f y)) ++ map f (drop n (z ∷ slice_set xs k (f y)))) e)
        ∙ ap (λ t. z ∷ t) (step xs k y h)
