-- The mean of two numbers by weights.
use Rattle.std.proofs.Common.{◌≡◌, ℕ, ◌+◌, ◌*◌, ◌/◌, ◌%◌, ◌≤◌, ◌<◌, T, arith, sym, subst}
use Rattle.pixel_rows.specs.Floats.{IsWhole}
use Rattle.pixel_rows.proofs.Quotients.{quotient_bits, shift_is}
use Rattle.pixel_rows.proofs.Wholes.{mul_whole, add_whole}
use lib.Ieee.{Float, binary32, add, mul, div, of_bits, to_bits}
use lib.Ieee.Positive.{positive}
use native.Mathlib.Nat.{mul-le-mul_left}

pub told : (a s b d w : ℕ) → s < 256 → d < 256 → 255 ≤ w → w ≤ 65025 → a + b ≤ w → (x1 x2 x3 x4 x5 x6 : Float)
    → IsWhole x1 a → IsWhole x2 s → IsWhole x3 b → IsWhole x4 d → IsWhole x5 (w / 2) → IsWhole x6 w
    → T (positive (add binary32 (div binary32 (add binary32 (mul binary32 x1 x2) (add binary32 (mul binary32 x3 x4) x5)) x6) (of_bits binary32 1132462079)))
    × (to_bits binary32 (add binary32 (div binary32 (add binary32 (mul binary32 x1 x2) (add binary32 (mul binary32 x3 x4) x5)) x6) (of_bits binary32 1132462079)) / 32768 % 256 ≡ (a * s + b * d + w / 2) / w)
told a s b d w S D W M P x1 x2 x3 x4 x5 x6 v1 v2 v3 v4 v5 v6 =
    let p : a * s ≤ a * 255 = mul-le-mul_left a (omega (arith, S)) in
    let q : b * d ≤ b * 255 = mul-le-mul_left b (omega (arith, D)) in
    let n : IsWhole (add binary32 (mul binary32 x1 x2) (add binary32 (mul binary32 x3 x4) x5)) (a * s + (b * d + w / 2)) =
    add_whole _ _ (a * s) (b * d + w / 2) (mul_whole x1 x2 a s v1 v2 (omega arith)) (add_whole _ _ (b * d) (w / 2) (mul_whole x3 x4 b d v3 v4 (omega arith)) v5 (omega arith)) (omega arith) in
    let n' : IsWhole (add binary32 (mul binary32 x1 x2) (add binary32 (mul binary32 x3 x4) x5)) (a * s + b * d + w / 2) = subst (λ (z : ℕ). IsWhole (add binary32 (mul binary32 x1 x2) (add binary32 (mul binary32 x3 x4) x5)) z) (omega arith) n in
    subst (λ (z : Float). T (positive (add binary32 (div binary32 (add binary32 (mul binary32 x1 x2) (add binary32 (mul binary32 x3 x4) x5)) x6) z)) × (to_bits binary32 (add binary32 (div binary32 (add binary32 (mul binary32 x1 x2) (add binary32 (mul binary32 x3 x4) x5)) x6) z) / 32768 % 256 ≡ (a * s + b * d + w / 2) / w))
    (sym shift_is) (quotient_bits _ x6 (a * s + b * d + w / 2) w (omega arith) (omega arith) M (omega arith) n' v6)

pub told_three : (a s b d e f w : ℕ) → s < 256 → d < 256 → f < 256 → 255 ≤ w → w ≤ 65025 → a + b + e ≤ w → (x1 x2 x3 x4 x5 x6 x7 x8 : Float)
    → IsWhole x1 a → IsWhole x2 s → IsWhole x3 b → IsWhole x4 d → IsWhole x5 (w / 2) → IsWhole x6 e → IsWhole x7 f → IsWhole x8 w
    → T (positive (add binary32 (div binary32 (add binary32 (mul binary32 x6 x7) (add binary32 (mul binary32 x1 x2) (add binary32 (mul binary32 x3 x4) x5))) x8) (of_bits binary32 1132462079)))
    × (to_bits binary32 (add binary32 (div binary32 (add binary32 (mul binary32 x6 x7) (add binary32 (mul binary32 x1 x2) (add binary32 (mul binary32 x3 x4) x5))) x8) (of_bits binary32 1132462079)) / 32768 % 256 ≡ (b * d + a * s + e * f + w / 2) / w)
told_three a s b d e f w S D F W M P x1 x2 x3 x4 x5 x6 x7 x8 v1 v2 v3 v4 v5 v6 v7 v8 =
    let p : a * s ≤ a * 255 = mul-le-mul_left a (omega (arith, S)) in
    let q : b * d ≤ b * 255 = mul-le-mul_left b (omega (arith, D)) in
    let r : e * f ≤ e * 255 = mul-le-mul_left e (omega (arith, F)) in
    let below = add binary32 (mul binary32 x3 x4) x5 in
    let alone = add binary32 (mul binary32 x1 x2) below in
    let top = add binary32 (mul binary32 x6 x7) alone in
    let m : IsWhole below (b * d + w / 2) = add_whole _ _ (b * d) (w / 2) (mul_whole x3 x4 b d v3 v4 (omega arith)) v5 (omega arith) in
    let k : IsWhole alone (a * s + (b * d + w / 2)) = add_whole _ below (a * s) (b * d + w / 2) (mul_whole x1 x2 a s v1 v2 (omega arith)) m (omega arith) in
    let n : IsWhole top (e * f + (a * s + (b * d + w / 2))) = add_whole _ alone (e * f) (a * s + (b * d + w / 2)) (mul_whole x6 x7 e f v6 v7 (omega arith)) k (omega arith) in
    let n' : IsWhole top (b * d + a * s + e * f + w / 2) = subst (λ (z : ℕ). IsWhole top z) (omega arith) n in
    subst (λ (z : Float). T (positive (add binary32 (div binary32 top x8) z)) × (to_bits binary32 (add binary32 (div binary32 top x8) z) / 32768 % 256 ≡ (b * d + a * s + e * f + w / 2) / w))
    (sym shift_is) (quotient_bits top x8 (b * d + a * s + e * f + w / 2) w (omega arith) (omega arith) M (omega arith) n' v8)
