-- Chords by the squares.
use Rattle.std.proofs.Common.{◌≡◌, ℕ, ◌+◌, ◌-◌, ◌*◌, ◌≤◌, ◌<◌, Bool, true, false, ◌&&◌, not, sym, cond, refl, ap, ◌∙◌, ◌⊎◌, inl, inr, arith}
use Rattle.std.specs.Prelude.{ℤ, pos, ◌+ℤ◌, ◌-ℤ◌, ◌≤ℤ◌, nat_abs, nat_lt, nat_le, int_le}
use borrow.Author.Differences.{ints}
use Rattle.std.proofs.lemmas.Bool.Decides.{nat_tests}
use Rattle.brush_mask.specs.Mask.{mask}
use Rattle.brush_mask.specs.Chords.{IsHalfChord, IsChord}

squares_le : (x h : ℕ) → x ≤ h → x * x ≤ h * h
squares_le x h l = grind arith

-- a column within the chord is nearer than the radius, and the next one is not
by_squares : (r2 d2 x h : ℕ) → d2 ≤ r2 → h * h ≤ r2 - d2 → r2 - d2 < (h + 1) * (h + 1) → cond {A = ℕ} (nat_lt r2 (x * x + d2)) 0 255 ≡ cond {A = ℕ} (nat_le x h) 255 0
by_squares r2 d2 x h meets low high = go (nat_le x h) refl
  where
    go : (t : Bool) → nat_le x h ≡ t → cond {A = ℕ} (nat_lt r2 (x * x + d2)) 0 255 ≡ cond {A = ℕ} t 255 0
    go true e =
        let near : x ≤ h = grind (arith, nat_tests) in
        let s : x * x ≤ h * h = squares_le x h near in
        let t : nat_lt r2 (x * x + d2) ≡ false = (let u : x * x + d2 ≤ r2 = omega arith in grind (arith, nat_tests)) in
        ap (λ b. cond {A = ℕ} b 0 255) t
    go false e =
        let far : h + 1 ≤ x = grind (arith, nat_tests) in
        let s : (h + 1) * (h + 1) ≤ x * x = squares_le (h + 1) x far in
        let t : nat_lt r2 (x * x + d2) ≡ true = (let u : r2 < x * x + d2 = omega (arith, s, high, meets) in grind (arith, nat_tests)) in
        ap (λ b. cond {A = ℕ} b 0 255) t

pub half : (r d2 h : ℕ) (dy : ℤ) → d2 ≡ nat_abs dy * nat_abs dy → d2 ≤ r * r → h * h ≤ r * r - d2 → r * r - d2 < (h + 1) * (h + 1) → IsHalfChord r dy h
unfolding mask
half r d2 h dy e meets low high dx = ap (λ n. cond {A = ℕ} (nat_lt (r * r) (nat_abs dx * nat_abs dx + n)) 0 255) (sym e) ∙ by_squares (r * r) d2 (nat_abs dx) h meets low high

-- a row that is farther than the radius
pub missed : (r d2 : ℕ) (dy : ℤ) → d2 ≡ nat_abs dy * nat_abs dy → r * r < d2 → (dx : ℤ) → mask r false dx dy ≡ 0
unfolding mask
missed r d2 dy e far dx = ap (λ b. cond {A = ℕ} b 0 255) (let t : nat_lt (r * r) (nat_abs dx * nat_abs dx + nat_abs dy * nat_abs dy) ≡ true = beyond (r * r) (nat_abs dx * nat_abs dx) (nat_abs dy * nat_abs dy) (omega (arith, e)) in t)
  where
    beyond : (r2 a b : ℕ) → r2 < b → nat_lt r2 (a + b) ≡ true
    beyond r2 a b l = grind (arith, nat_tests)

-- the places of a row that are this much or more
abbrev pub ArePlaces : ℕ → ℤ → ℕ → Type 0
ArePlaces places x n = (k : ℕ) → k < places → nat_le n k ≡ int_le x (pos k)

pub in_order : (places first end : ℕ) (low high : ℤ) → low ≤ℤ high → first ≤ places → end ≤ places → ArePlaces places low first → ArePlaces places high end → first ≤ end
in_order places first end low high le within last from to = elim (by_end end places last) [
  | inl e ↦ omega arith
  | inr h ↦ reached first end low high le (from end h) (to end h)
]
  where
    by_end : (end places : ℕ) → end ≤ places → (end ≡ places) ⊎ (end < places)
    by_end end places h = grind arith

    reached : (first end : ℕ) (low high : ℤ) → low ≤ℤ high → nat_le first end ≡ int_le low (pos end) → nat_le end end ≡ int_le high (pos end) → first ≤ end
    reached first end low high le e f = grind (arith, ints, nat_tests)

-- the places of a row within half a chord to each side
between : (h k : ℕ) (dx low high : ℤ) → low ≡ ((pos 0 -ℤ pos h) -ℤ dx) → high ≡ ((pos h +ℤ pos 1) -ℤ dx) → nat_le (nat_abs (dx +ℤ pos k)) h ≡ (int_le low (pos k) && not (int_le high (pos k)))
between h k dx low high el eh = grind (arith, ints, nat_tests)

pub chord : (r h places first end : ℕ) (dx dy low high : ℤ) → IsHalfChord r dy h → low ≡ ((pos 0 -ℤ pos h) -ℤ dx) → high ≡ ((pos h +ℤ pos 1) -ℤ dx) → ArePlaces places low first → ArePlaces places high end
    → IsChord r dx dy places first end
chord r h places first end dx dy low high is el eh from to k small =
    is (dx +ℤ pos k)
    ∙ ap (λ b. cond {A = ℕ} b 255 0) (between h k dx low high el eh ∙ sym (λ i. from k small i && not (to k small i)) ∙ ap (λ b. nat_le first k && b) (below end k))
  where
    below : (end k : ℕ) → not (nat_le end k) ≡ nat_lt k end
    below end k = grind (arith, nat_tests)
