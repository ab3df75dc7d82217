-- The items of a list from one place to before another.
use Rattle.std.proofs.Common.{◌≡◌, ℕ, ◌+◌, ◌-◌, ◌≤◌, ◌<◌, Some, List, [], ◌∷◌, ◌++◌, length, take, drop, get_or, min, max, sym, ap, ◌∙◌, arith}
use Rattle.std.specs.Prelude.{slice_get}
use Rattle.std.proofs.lemmas.List.{get_or-drop, length-drop, take_min, take_more}
use Rattle.std.proofs.lemmas.Option.{get_or_from_slice_get, slice_get_within}

module _ {A : Type 0} (xs : List A) (from : ℕ) where
  -- none yet
  pub part_none : (i : ℕ) → i ≡ from → [] ≡ take (i - from) (drop from xs)
  part_none i e = ap (λ n. take n (drop from xs)) (let none : 0 ≡ i - from = omega arith in none)

  -- one more
  pub part_more : (i : ℕ) (x : A) → from ≤ i → slice_get xs i ≡ Some x → take ((i + 1) - from) (drop from xs) ≡ take (i - from) (drop from xs) ++ x ∷ []
  part_more i x h at =
      ap (λ n. take n (drop from xs)) (let next : (i + 1) - from ≡ (i - from) + 1 = omega arith in next)
      ∙ take_more (drop from xs) (i - from) x (let long = length-drop from xs in let within : i < length xs = slice_get_within xs i x at in omega (arith, long, within))
      ∙ ap (λ y. take (i - from) (drop from xs) ++ y ∷ [])
      (get_or-drop from xs (i - from) x ∙ ap (λ n. get_or xs n x) (let same : from + (i - from) ≡ i = omega arith in same) ∙ get_or_from_slice_get xs i x x at)

  -- all that are there
  pub part_all : (i to end : ℕ) → end ≡ max (min to (length xs)) from → end ≤ i → (from ≤ end → i ≤ end) → take (i - from) (drop from xs) ≡ take (to - from) (drop from xs)
  part_all i to end is h k =
      sym (take_min (i - from) (drop from xs)) ∙ ap (λ n. take n (drop from xs)) same ∙ take_min (to - from) (drop from xs)
    where
      low : i ≤ end
      low = k (omega (arith, is))

      same : min (i - from) (length (drop from xs)) ≡ min (to - from) (length (drop from xs))
      same = let long = length-drop from xs in omega (arith, is, h, low, long)
