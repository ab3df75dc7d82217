-- Quotients by one multiplication and a shift.
use Rattle.std.proofs.Common.{◌≡◌, ℕ, ◌+◌, ◌-◌, ◌*◌, ◌/◌, ◌≤◌, ◌<◌, arith, ap, ◌∙◌}
use Rattle.std.proofs.lemmas.Nat.{div-mul-add}
use Rattle.std.proofs.Math.Nat.{mul-div-le, lt-mul-div-succ, mul-le-mul_left, mul-le-mul_right, lt_of_mul-lt-mul_left, le_of_mul-le-mul_left, div-le_of_le-mul}

-- what one is worth in parts of p, rounded up, times n
pub by_part : (a n d p : ℕ) → 0 < d → n * d < p → n * (a * p / d + 1) / p ≡ a * n / d
by_part a n d p some small = ap (λ x. x / p) split ∙ div-mul-add (a * n / d) p (n * (a * p / d + 1) - (a * n / d) * p) (omega (arith, low, high))
  where
    low_times : d * ((a * n / d) * p) ≤ d * (n * (a * p / d + 1))
    low_times =
        let u : d * (a * n / d) * p ≤ a * n * p = mul-le-mul_right p (mul-div-le (a * n) d) in
        let s : a * p ≤ d * (a * p / d + 1) = (let t : a * p < d * (a * p / d + 1) = lt-mul-div-succ (a * p) some in omega arith) in
        let v : n * (a * p) ≤ n * (d * (a * p / d + 1)) = mul-le-mul_left n s in
        omega (arith, u, v)

    low : (a * n / d) * p ≤ n * (a * p / d + 1)
    low = le_of_mul-le-mul_left {k = d} low_times some

    high_times : d * (n * (a * p / d + 1)) < d * ((a * n / d) * p + p)
    high_times =
        let u : n * (d * (a * p / d)) ≤ n * (a * p) = mul-le-mul_left n (mul-div-le (a * p) d) in
        let s : a * n + 1 ≤ d * (a * n / d + 1) = (let t : a * n < d * (a * n / d + 1) = lt-mul-div-succ (a * n) some in omega arith) in
        let v : (a * n + 1) * p ≤ d * (a * n / d + 1) * p = mul-le-mul_right p s in
        omega (arith, u, v, small)

    high : n * (a * p / d + 1) < (a * n / d) * p + p
    high = lt_of_mul-lt-mul_left d high_times

    split : n * (a * p / d + 1) ≡ (a * n / d) * p + (n * (a * p / d + 1) - (a * n / d) * p)
    split = omega (arith, low)

-- 255ths of a whole
pub falls : (whole n p : ℕ) → 0 < whole → whole * whole < p → n ≤ whole → n * (255 * p / whole + 1) / p ≡ 255 * n / whole
falls whole n p some small most = by_part 255 n whole p some (omega (arith, mul-le-mul_right whole most))

-- a share of a whole is at most 255 of its 255ths
pub quotient_byte : (whole n : ℕ) → n ≤ whole → 255 * n / whole < 256
quotient_byte whole n most = let e : 255 * n / whole ≤ 255 = div-le_of_le-mul whole (let f : 255 * n ≤ whole * 255 = omega arith in f) in omega arith

-- the products of a whole
pub product : (whole n part p : ℕ) → 0 < whole → part ≡ 255 * p / whole + 1 → n ≤ whole → n * part ≤ 255 * p + whole
product whole n part p some e most =
    let u : whole * (255 * p / whole) ≤ 255 * p = mul-div-le (255 * p) whole in
    let v : n * part ≤ whole * part = mul-le-mul_right part most in
    let w : whole * part ≡ whole * (255 * p / whole + 1) = ap (λ x. whole * x) e in
    omega (arith, u, v, w)
