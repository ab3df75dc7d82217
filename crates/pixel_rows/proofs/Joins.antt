-- A row whose next block is laid on.
use Rattle.std.proofs.Common.{◌≡◌, ℕ, ◌+◌, ◌-◌, ◌≤◌, ◌<◌, List, length, get_or, take, drop, ◌++◌, arith, ap, ◌∙◌, ◌⊎◌, inl, inr}
use Rattle.std.proofs.lemmas.List.{get_or-append_right, get_or-take, get_or-drop, length-take-le, length-drop}
use Rattle.std.proofs.lemmas.Bool.{cases_lt}
use Rattle.std.proofs.Math.ListN.{get_or-append}
use Rattle.pixel_core.specs.declared.blending.Op.{Op}
use Rattle.pixel_core.specs.Rgba.{Rgba, clear}
use Rattle.pixel_core.specs.Compose.{compose}
use Rattle.pixel_rows.specs.Rows.{LaysRow, LaysPart, Dims}

-- sixteen pixels in the place of those from a place on
abbrev pub replaced : ℕ → List Rgba → List Rgba → List Rgba
replaced at row ys = take at row ++ (ys ++ drop 16 (drop at row))

below : (at k : ℕ) (row ys : List Rgba) → at ≤ length row → k < at → get_or (replaced at row ys) k clear ≡ get_or row k clear
below at k row ys h t = get_or-append (take at row) _ clear k (omega (arith, length-take-le at row h)) ∙ get_or-take at row k clear t

within : (at k : ℕ) (row ys : List Rgba) → at ≤ length row → length ys ≡ 16 → k < 16 → get_or (replaced at row ys) (at + k) clear ≡ get_or ys k clear
within at k row ys h n t =
    get_or-append_right (take at row) _ at (at + k) clear (length-take-le at row h) (omega arith)
    ∙ (let e : at + k - at ≡ k = omega arith in ap (λ m. get_or (ys ++ drop 16 (drop at row)) m clear) e)
    ∙ get_or-append ys _ clear k (omega (arith, n))

above : (at k : ℕ) (row ys : List Rgba) → at ≤ length row → length ys ≡ 16 → at + 16 ≤ k → get_or (replaced at row ys) k clear ≡ get_or row k clear
above at k row ys h n t =
    get_or-append_right (take at row) _ at k clear (length-take-le at row h) (omega arith)
    ∙ get_or-append_right ys _ 16 (k - at) clear n (omega arith)
    ∙ get_or-drop 16 (drop at row) (k - at - 16) clear
    ∙ get_or-drop at row (16 + (k - at - 16)) clear
    ∙ (let e : at + (16 + (k - at - 16)) ≡ k = omega arith in ap (λ m. get_or row m clear) e)

block_laid_16 : (op : Op) (source : ℕ → Rgba) (strength : ℕ → ℕ) (at : ℕ) (sources old row ys : List Rgba) → at + 16 ≤ length row → length ys ≡ 16
    → ((k : ℕ) → k < 16 → Dims (get_or sources k clear) (source (at + k)) (strength (at + k)))
    → LaysPart op source strength 0 at old row → LaysRow op (λ k. get_or sources k clear) (λ _. 255) (take 16 (drop at row)) ys
    → LaysPart op source strength 0 (at + 16) old (replaced at row ys)
block_laid_16 op source strength at sources old row ys long n same h g = record {
  before = λ k t. absurd (omega arith);
  here = λ k t u. on k u (cases_lt k at);
  after = λ k t. above at k row ys (omega arith) n t ∙ h.after k (omega arith);
}
  where
    part : (k : ℕ) → k < 16 → get_or (take 16 (drop at row)) k clear ≡ get_or old (at + k) clear
    part k t = get_or-take 16 (drop at row) k clear t ∙ get_or-drop at row k clear ∙ h.after (at + k) (omega arith)

    laid : (k : ℕ) → k < 16 → get_or (replaced at row ys) (at + k) clear ≡ compose op (source (at + k)) (get_or old (at + k) clear) (strength (at + k))
    laid k t = within at k row ys (omega arith) n t ∙ g k (omega (arith, long, length-take-le 16 (drop at row) (omega (arith, length-drop at row)))) ∙ ap (λ d. compose op (get_or sources k clear) d 255) (part k t) ∙ same k t op (get_or old (at + k) clear)

    on : (k : ℕ) → k < at + 16 → (k < at) ⊎ (at ≤ k) → get_or (replaced at row ys) k clear ≡ compose op (source k) (get_or old k clear) (strength k)
    on k u (inl low) = below at k row ys (omega arith) low ∙ h.here k (omega arith) low
    on k u (inr high) = let e : at + (k - at) ≡ k = omega arith in rw e at (laid (k - at) (omega arith))

-- the row is laid on up to a block, and that block is laid on; n is 16
pub block_laid : (op : Op) (source : ℕ → Rgba) (strength : ℕ → ℕ) (at n end : ℕ) (sources old row ys : List Rgba) → n ≡ 16 → end ≡ at + 16 → at + 16 ≤ length row → length ys ≡ 16
    → ((k : ℕ) → k < 16 → Dims (get_or sources k clear) (source (at + k)) (strength (at + k)))
    → LaysPart op source strength 0 at old row → LaysRow op (λ k. get_or sources k clear) (λ _. 255) (take n (drop at row)) ys
    → LaysPart op source strength 0 end old (take at row ++ (ys ++ drop n (drop at row)))
block_laid op source strength at n end sources old row ys e f long m same h g = rw (f, e) (block_laid_16 op source strength at sources old row ys long m same h (rw e at g))
