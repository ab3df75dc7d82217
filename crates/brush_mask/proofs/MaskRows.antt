-- Rows of strengths, written place by place.
use Rattle.std.proofs.Common.{◌≡◌, ℕ, ◌+◌, ◌-◌, ◌*◌, ◌/◌, ◌<◌, inl, inr, Bool, true, false, cond, List, length, get_or, set, refl, sym, ap, ◌∙◌, arith}
use Rattle.std.specs.Prelude.{if◌then◌else◌, ℤ, pos, ◌+ℤ◌, nat_abs, nat_lt}
use Rattle.std.proofs.lemmas.Bool.Decides.{nat_tests, eqb_tells}
use Rattle.std.proofs.lemmas.List.{get_or-set_other}
use Rattle.std.proofs.lemmas.Grind.{get_or-set_at}
use Rattle.brush_mask.specs.Mask.{mask, inside}
use Rattle.brush_mask.specs.Rows.{spare, full}

-- one more place is written, with what a function has at its distance
pub row_next : (f : ℤ → ℕ) (x z : ℤ) (row : List ℕ) (i v : ℕ) → v ≡ f x → x ≡ (z +ℤ pos i) → i < length row → ((k : ℕ) → k < i → get_or row k 0 ≡ f (z +ℤ pos k)) → (k : ℕ) → k < i + 1 → get_or (set row i v) k 0 ≡ f (z +ℤ pos k)
row_next f x z row i v e at fits so k less = elim (eqb_tells k i) [
  | inl s ↦ get_or-set_at row i k v 0 s.1 fits ∙ e ∙ ap f (at ∙ ap (λ n. z +ℤ pos n) (sym s.1))
  | inr away ↦ get_or-set_other row i k v 0 away.1 ∙ so k (omega (arith, less, away.1))
]

-- the strengths by the squares alone
hard_by_squares : (r2 a b room : ℕ) → room ≡ (r2 + 1) - b → cond {A = ℕ} (nat_lt r2 (a + b)) 0 255 ≡ cond {A = ℕ} (nat_lt 0 (room - a)) 255 0
hard_by_squares r2 a b room e = grind (arith, nat_tests)

soft_by_squares : (r2 a b room : ℕ) → room ≡ (r2 + 1) - b → (if nat_lt r2 (a + b) then 0 else inside true r2 (a + b)) ≡ 255 * (room - a) / (r2 + 1)
soft_by_squares r2 a b room e = go (nat_lt r2 (a + b)) refl
  where
    left : (r2 + 1) - (a + b) ≡ room - a
    left = omega (arith, e)

    none_left : nat_lt r2 (a + b) ≡ true → 0 ≡ 255 * (room - a) / (r2 + 1)
    none_left t = let z : room - a ≡ 0 = grind (arith, nat_tests) in omega (arith, ap (λ n. 255 * n / (r2 + 1)) z)

    go : (t : Bool) → nat_lt r2 (a + b) ≡ t → (if t then 0 else inside true r2 (a + b)) ≡ 255 * (room - a) / (r2 + 1)
    go true t = none_left t
    go false t = ap (λ n. 255 * n / (r2 + 1)) left

pub hard_strength : (r room : ℕ) (dx dy : ℤ) → room ≡ (r * r + 1) - nat_abs dy * nat_abs dy → mask r false dx dy ≡ full room dx
unfolding mask full spare
hard_strength r room dx dy e = hard_by_squares (r * r) (nat_abs dx * nat_abs dx) (nat_abs dy * nat_abs dy) room e

pub soft_strength : (r room : ℕ) (dx dy : ℤ) → room ≡ (r * r + 1) - nat_abs dy * nat_abs dy → mask r true dx dy ≡ 255 * spare room dx / (r * r + 1)
unfolding mask spare
soft_strength r room dx dy e = soft_by_squares (r * r) (nat_abs dx * nat_abs dx) (nat_abs dy * nat_abs dy) room e
