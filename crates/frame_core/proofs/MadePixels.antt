-- The pixels of a tile that is composed of plies.
use Rattle.std.proofs.Common.{◌≡◌, ℕ, suc, zero, ◌+◌, ◌*◌, ◌/◌, ◌%◌, ◌<◌, ◌≤◌, List, length, get_or, take, drop, refl, sym, ap, ◌∙◌, arith}
use Rattle.std.proofs.lemmas.List.{get_or-take, get_or-drop, ext_get_or, length-take-le}
use Rattle.std.proofs.Common.{length-drop}
use Rattle.pixel_core.specs.Rgba.{Rgba, clear}
use Rattle.tile_core.specs.Pixels.{pixel_of}
use Rattle.frame_core.specs.declared.ply.Ply.{Ply}
use Rattle.frame_core.specs.Plies.{made_at, made_from, made_pixels}

-- the number of places is a variable here, so that they aren't counted one by one
made_is : (plies : List Ply) (n : ℕ) → n ≡ 4096 → made_pixels plies ≡ made_from plies 0 n
unfolding made_pixels
made_is plies n e = ap (made_from plies 0) (sym e)

length-made_from : (plies : List Ply) (i n : ℕ) → length (made_from plies i n) ≡ n
length-made_from plies i zero = refl
length-made_from plies i (suc n) = ap suc (length-made_from plies (suc i) n)

at_made : (plies : List Ply) (i n j : ℕ) → j < n → get_or (made_from plies i n) j clear ≡ made_at plies ((i + j) % 64) ((i + j) / 64)
at_made plies i zero j h = absurd (omega arith)
at_made plies i (suc n) zero h = let e : i ≡ i + 0 = omega arith in ap (λ m. made_at plies (m % 64) (m / 64)) e
at_made plies i (suc n) (suc j) h = let e : suc i + j ≡ i + suc j = omega arith in at_made plies (suc i) n j (omega arith) ∙ ap (λ m. made_at plies (m % 64) (m / 64)) e

-- there are 4,096 of them
pub length-made : (plies : List Ply) → length (made_pixels plies) ≡ 4096
length-made plies = of 4096 refl
  where
    of : (n : ℕ) → n ≡ 4096 → length (made_pixels plies) ≡ 4096
    of n e = ap length (made_is plies n e) ∙ length-made_from plies 0 n ∙ e

-- the pixel of a column and a row
pub made_here : (plies : List Ply) (col row : ℕ) → col < 64 → row < 64 → pixel_of (made_pixels plies) col row ≡ made_at plies col row
made_here plies col row h l = of 4096 refl
  where
    of : (n : ℕ) → n ≡ 4096 → pixel_of (made_pixels plies) col row ≡ made_at plies col row
    of n e =
        let c : (0 + (64 * row + col)) % 64 ≡ col = omega arith in
        let r : (0 + (64 * row + col)) / 64 ≡ row = omega arith in
        ap (λ v. get_or v (64 * row + col) clear) (made_is plies n e) ∙ at_made plies 0 n (64 * row + col) (omega arith) ∙ (λ i. made_at plies (c i) (r i))

-- a row's pixels are those that are made of it
pub row_made : (plies : List Ply) (row n : ℕ) (made : List Rgba) → row < 64 → n ≤ 64 → length made ≡ 64 → ((k : ℕ) → k < 64 → get_or made k clear ≡ made_at plies k row) → take n made ≡ take n (drop (64 * row) (made_pixels plies))
row_made plies row n made h few all same = ext_get_or clear (take n made) (take n (drop (64 * row) (made_pixels plies))) (own ∙ sym theirs) at
  where
    own : length (take n made) ≡ n
    own = length-take-le n made (omega (arith, all))

    theirs : length (take n (drop (64 * row) (made_pixels plies))) ≡ n
    theirs = length-take-le n (drop (64 * row) (made_pixels plies)) (omega (arith, length-drop (64 * row) (made_pixels plies), length-made plies))

    at : (k : ℕ) → k < length (take n made) → get_or (take n made) k clear ≡ get_or (take n (drop (64 * row) (made_pixels plies))) k clear
    at k l =
        let small : k < n = omega (arith, own) in
        get_or-take n made k clear small ∙ same k (omega arith) ∙ sym (made_here plies k row (omega arith) h)
        ∙ sym (get_or-take n (drop (64 * row) (made_pixels plies)) k clear small ∙ get_or-drop (64 * row) (made_pixels plies) k clear)
