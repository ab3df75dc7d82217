-- Rows of the same pixels.
use Rattle.std.proofs.Common.{◌≡◌, ℕ, ◌+◌, ◌<◌, Bool, true, ◌&&◌, List, [], ◌∷◌, ◌++◌, length, get_or, take, drop, sym, ap, ◌∙◌, arith}
use Rattle.std.proofs.Math.Seq.{take-append_seam, drop-append_seam}
use Rattle.std.proofs.lemmas.List.{take_more, length-take-le}
use Rattle.pixel_core.specs.Rgba.{Rgba}

-- one more pixel is the same
pub same_more : (xs ys : List Rgba) (i : ℕ) (same t : Bool) (p q : Rgba) → i < length xs → length ys ≡ length xs → p ≡ get_or xs i p → q ≡ get_or ys i q → (t ≡ true → p ≡ q) × (p ≡ q → t ≡ true)
    → (same ≡ true → take i xs ≡ take i ys) × (take i xs ≡ take i ys → same ≡ true)
    → ((same && t) ≡ true → take (i + 1) xs ≡ take (i + 1) ys) × (take (i + 1) xs ≡ take (i + 1) ys → (same && t) ≡ true)
same_more xs ys i same t p q h l ep eq test so =
    let ex : take (i + 1) xs ≡ take i xs ++ p ∷ [] = take_more xs i p h ∙ ap (λ v. take i xs ++ v ∷ []) (sym ep) in
    let ey : take (i + 1) ys ≡ take i ys ++ q ∷ [] = take_more ys i q (omega arith) ∙ ap (λ v. take i ys ++ v ∷ []) (sym eq) in
    let nx : length (take i xs) ≡ i = length-take-le i xs (omega arith) in
    let ny : length (take i ys) ≡ i = length-take-le i ys (omega arith) in (
      (λ b.
          let s : same ≡ true = grind arith in
          let e : t ≡ true = grind arith in
          ex ∙ ap (λ v. v ++ p ∷ []) (so.0 s) ∙ ap (λ v. take i ys ++ v ∷ []) (test.0 e) ∙ sym ey),
      (λ e.
          let both : take i xs ++ p ∷ [] ≡ take i ys ++ q ∷ [] = sym ex ∙ e ∙ ey in
          let front : take i xs ≡ take i ys = sym (take-append_seam (take i xs) (p ∷ [])) ∙ ap (λ j. take j (take i xs ++ p ∷ [])) nx ∙ ap (take i) both ∙ ap (λ j. take j (take i ys ++ q ∷ [])) (sym ny) ∙ take-append_seam (take i ys) (q ∷ []) in
          let last : p ∷ [] ≡ q ∷ [] = sym (drop-append_seam (take i xs) (p ∷ [])) ∙ ap (λ j. drop j (take i xs ++ p ∷ [])) nx ∙ ap (drop i) both ∙ ap (λ j. drop j (take i ys ++ q ∷ [])) (sym ny) ∙ drop-append_seam (take i ys) (q ∷ []) in
          let s : same ≡ true = so.1 front in
          let w : t ≡ true = test.1 (ap (λ v. get_or v 0 p) last) in
          grind arith),
    )
