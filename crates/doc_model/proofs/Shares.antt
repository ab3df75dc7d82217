-- Shares of a way, rounded down, lie on the way.
use Rattle.std.proofs.Common.{◌≡◌, ℕ, suc, zero, ◌+◌, ◌-◌, ◌*◌, ◌/◌, ◌%◌, ◌≤◌, ◌<◌, arith, refl, sym, ap, ◌∙◌}
use Rattle.std.specs.Prelude.{ℤ, pos, negsuc, ◌-ℤ◌, ◌*ℤ◌, ◌≤ℤ◌, nat_abs}
use Rattle.std.specs.Int.{div_ceil}
use Rattle.std.proofs.Math.Nat.{div-eq_of_lt, div-eq_of_lt-le, div-le_of_le-mul, div-mul-le_self, lt-div-mul-add, mul-le-mul_left, mul-le-mul_right}
use Rattle.std.proofs.Math.IntN.{neg_ℤ, pos-*ℤ-pos, negsuc-*ℤ-pos}
use borrow.Author.Differences.{ints}
use Rattle.geom_core.specs.Grid.{floor_by}

-- a quotient rounded up, as the code has it
abbrev pub up : ℕ → ℕ → ℕ
up m w = (m + (w - 1)) / w

up-suc : (m w : ℕ) → 1 ≤ w → up (suc m) w ≡ m / w + 1
up-suc m w h =
    let low : m / w * w ≤ m = div-mul-le_self m w in
    let high : m < m / w * w + w = lt-div-mul-add {a = m} {b = w} h in
    div-eq_of_lt-le w {m = suc m + (w - 1)} (omega arith) (omega arith)

up-zero : (w : ℕ) → 1 ≤ w → up 0 w ≡ 0
up-zero w h = div-eq_of_lt {n = 0 + (w - 1)} {m = w} (omega arith)

-- a negative share
negative : (m w : ℕ) → 1 ≤ w → floor_by w (neg_ℤ (pos m)) ≡ pos 0 -ℤ pos (up m w)
negative zero w h = let e : up 0 w ≡ 0 = up-zero w h in let f : 0 / w ≡ 0 = div-eq_of_lt {n = 0} {m = w} (omega arith) in rw (e, f) refl
negative (suc m) w h = let e : up (suc m) w ≡ m / w + 1 = up-suc m w h in rw e (omega (arith, ints))

pub share_negative : (a n w : ℕ) → 1 ≤ w → floor_by w (negsuc a *ℤ pos n) ≡ pos 0 -ℤ pos (up (suc a * n) w)
share_negative a n w h = ap (floor_by w) (negsuc-*ℤ-pos a n) ∙ negative (suc a * n) w h

pub share_positive : (a n w : ℕ) → floor_by w (pos a *ℤ pos n) ≡ pos (a * n / w)
share_positive a n w = ap (floor_by w) (pos-*ℤ-pos a n)

pub below_positive : (a n w : ℕ) → n ≤ w → a * n / w ≤ a
below_positive a n w h = div-le_of_le-mul w (let e : a * n ≤ a * w = mul-le-mul_left a h in omega arith)

pub below_negative : (a n w : ℕ) → 1 ≤ w → n ≤ w → up (a * n) w ≤ a
below_negative zero n w o h = let e : up (0 * n) w ≡ 0 = ap (λ k. up k w) (omega arith) ∙ up-zero w o in omega arith
below_negative (suc a) zero w o h = let e : up (suc a * 0) w ≡ 0 = ap (λ k. up k w) (omega arith) ∙ up-zero w o in omega arith
below_negative (suc a) (suc n) w o h =
    let e : suc a * suc n ≤ suc a * w = mul-le-mul_left (suc a) h in
    let m : ℕ = suc a * suc n - 1 in
    let is : suc a * suc n ≡ suc m = omega arith in
    let u : up (suc a * suc n) w ≡ m / w + 1 = ap (λ k. up k w) is ∙ up-suc m w o in
    let d : m / w * w ≤ m = div-mul-le_self m w in
    let few : (m / w) * w < suc a * w = omega arith in
    let lt : m / w < suc a = Rattle.std.proofs.Math.Nat.lt_of_mul-lt-mul_left w {m = m / w} {n = suc a} (omega arith) in
    omega arith

-- a share of a way that leads back, by its length
pub back_is : (d : ℤ) (a n w : ℕ) → d ≤ℤ negsuc 0 → a ≡ nat_abs d → 1 ≤ w → floor_by w (d *ℤ pos n) ≡ pos 0 -ℤ pos (up (a * n) w)
back_is (pos d) a n w s e o = absurd (omega (arith, ints))
back_is (negsuc d) a n w s e o = share_negative d n w o ∙ ap (λ k. pos 0 -ℤ pos (up (k * n) w)) (sym (e ∙ omega (arith, ints)))

-- a share of a way lies between its ends
pub low : (b d : ℤ) (n w : ℕ) → 1 ≤ w → n ≤ w → b ≤ℤ pos 0 → b ≤ℤ d → b ≤ℤ floor_by w (d *ℤ pos n)
low b (pos a) n w o h z e = let s : floor_by w (pos a *ℤ pos n) ≡ pos (a * n / w) = share_positive a n w in rw s (omega (arith, ints))
low b (negsuc a) n w o h z e =
    let s : floor_by w (negsuc a *ℤ pos n) ≡ pos 0 -ℤ pos (up (suc a * n) w) = share_negative a n w o in
    let k : up (suc a * n) w ≤ suc a = below_negative (suc a) n w o h in
    rw s (omega (arith, ints))

pub high : (b d : ℤ) (n w : ℕ) → 1 ≤ w → n ≤ w → pos 0 ≤ℤ b → d ≤ℤ b → floor_by w (d *ℤ pos n) ≤ℤ b
high b (pos a) n w o h z e =
    let s : floor_by w (pos a *ℤ pos n) ≡ pos (a * n / w) = share_positive a n w in
    let k : a * n / w ≤ a = below_positive a n w h in
    rw s (omega (arith, ints))
high b (negsuc a) n w o h z e = let s : floor_by w (negsuc a *ℤ pos n) ≡ pos 0 -ℤ pos (up (suc a * n) w) = share_negative a n w o in rw s (omega (arith, ints))

-- multiples of a gap below a number are as many as its quotient rounded up
pub multiple_below : (d gap k : ℕ) → 1 ≤ gap → k < div_ceil d gap → k * gap < d
multiple_below d gap k o h =
    let cut : d / gap * gap ≤ d = div-mul-le_self d gap in
    let whole : d / gap * gap + d % gap ≡ d = Rattle.std.proofs.lemmas.Nat.div-add-mod' d gap in
    go (d % gap) refl whole
  where
    go : (m : ℕ) → d % gap ≡ m → d / gap * gap + d % gap ≡ d → k * gap < d
    go zero e whole =
        let small : suc k ≤ d / gap = omega arith in
        let more : suc k * gap ≤ d / gap * gap = mul-le-mul_right gap small in
        omega arith
    go (suc m) e whole =
        let small : k ≤ d / gap = omega arith in
        let more : k * gap ≤ d / gap * gap = mul-le-mul_right gap small in
        omega arith
