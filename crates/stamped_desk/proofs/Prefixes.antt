-- Beginnings of one list.
use Rattle.std.proofs.Common.{◌≡◌, ℕ, zero, suc, ◌<◌, ◌≤◌, List, [], ◌∷◌, length, Some, slice_get, refl, ap, sym, ◌∙◌, arith}
use mathlib.Core.List.{IsPrefix}

-- a beginning as long as the whole is the whole
pub prefix_whole : {A : Type 0} (xs ys : List A) → IsPrefix xs ys → length ys ≤ length xs → xs ≡ ys
prefix_whole [] [] p le = refl
prefix_whole [] (y ∷ ys) p le = absurd (omega arith)
prefix_whole (x ∷ xs) [] p le = absurd (cc (p.1))
prefix_whole (x ∷ xs) (y ∷ ys) p le =
    let rest = prefix_whole xs ys (p.0, cc (p.1)) (omega arith) in cc (p.1, rest)

-- a place of a beginning has what it has in the whole
prefix_at : {A : Type 0} (xs ys : List A) (n : ℕ) → IsPrefix xs ys → n < length xs → slice_get xs n ≡ slice_get ys n
prefix_at [] ys n p h = absurd (omega arith)
prefix_at (x ∷ xs) [] n p h = absurd (cc (p.1))
prefix_at (x ∷ xs) (y ∷ ys) zero p h = let e : x ≡ y = cc (p.1) in ap Some e
prefix_at (x ∷ xs) (y ∷ ys) (suc n) p h = prefix_at xs ys n (p.0, cc (p.1)) (omega arith)

-- so two beginnings of one list have the same at each place that both have
pub both_at : {A : Type 0} (xs ys zs : List A) (n m : ℕ) → n ≡ m → n < length xs → m < length ys → IsPrefix xs zs → IsPrefix ys zs → slice_get xs n ≡ slice_get ys m
both_at xs ys zs n m e h i p q = prefix_at xs zs n p h ∙ ap (slice_get zs) e ∙ sym (prefix_at ys zs m q i)
