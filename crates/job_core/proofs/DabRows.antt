-- Rows of a dab.
use Rattle.std.proofs.Common.{◌≡◌, ℕ, ◌+◌, ◌*◌, ◌≤◌, ◌<◌, cond, List, length, get_or, take, drop, ◌∙◌, arith, ltb, length-drop}
use Rattle.std.specs.Prelude.{ℤ, pos, ◌+ℤ◌}
use borrow.Rule.Slice.PartMut.{put_mid}
use Rattle.std.proofs.lemmas.List.{length-take-le}
use Rattle.pixel_core.specs.Rgba.{Rgba, clear}
use Rattle.pixel_core.specs.Compose.{mul}
use Rattle.job_core.specs.declared.ink.Ink.{Ink}
use Rattle.job_core.specs.declared.dabs.Brush.{Brush}
use Rattle.job_core.specs.Dabs.{brushed, brushed_from, DabsRow}
use Rattle.job_core.proofs.RowChanges.{ChangesFrom, slice_changed}

-- the strengths below i are multiplied, the others are as they were
abbrev pub WeakenedSoFar : ℕ → List ℕ → List ℕ → ℕ → Type 0
WeakenedSoFar strength old new i = (k : ℕ) → k < length old → get_or new k 0 ≡ cond (ltb k i) (mul (get_or old k 0) strength) (get_or old k 0)

-- a dab on a slice of the pixels, which is its row i
pub dab_row : (brush : Brush) (ink : Ink) (dx dy dx' dy' : ℤ) (w i from k : ℕ) (mid ys : List Rgba) → from + w ≤ length mid → k ≡ w → length ys ≡ w → dx' ≡ dx → dy' ≡ (dy +ℤ pos i)
    → DabsRow brush ink dx' dy' (take k (drop from mid)) ys → ChangesFrom (λ j. brushed_from brush ink dx dy j i) from w mid (put_mid from k mid ys)
dab_row brush ink dx dy dx' dy' w i from k mid ys fits ek many ex ey laid = slice_changed (λ j. brushed_from brush ink dx dy j i) mid ys from w k fits ek many (λ j h.
    laid j (long j h) ∙ (λ t. brushed brush ink (ex t +ℤ pos j) (ey t) (get_or (take k (drop from mid)) j clear)))
  where
    long : (n : ℕ) → n < w → n < length (take k (drop from mid))
    long n h = omega (arith, length-take-le k (drop from mid) (omega (arith, length-drop from mid)))

pub few_pixels : (h w : ℕ) → h ≤ 64 → w ≤ 64 → h * w ≤ 4096
few_pixels h w p q = grind arith
