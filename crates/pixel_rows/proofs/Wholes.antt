-- Floats that are whole numbers: their sums, products and differences are, as long as they stay below 2 ^ 24.
use Rattle.std.proofs.Common.{◌≡◌, ℕ, ◌+◌, ◌-◌, ◌*◌, ◌/◌, ◌%◌, ◌^◌, ◌≤◌, ◌<◌, true, false, not, T, eqb, ltb, leb, arith, sym, ap, subst, ◌∙◌, lit<, ◌≢◌}
use Rattle.std.proofs.lemmas.Bool.Decides.{nat_tests}
use Rattle.pixel_rows.specs.Floats.{IsWhole}
use Rattle.pixel_rows.proofs.Quotients.{whole_number}
use mathlib.Core.Bool.{true≢false}
use native.Mathlib.Nat.{mul-one, mul-pos, mul_comm, mul_assoc, mul_right_comm, mul-mul-mul_comm, add-mul, mul-sub, eq_of_mul-eq-mul_right, mul-le-mul_right}
use lib.Pow.{pow_pos}
use lib.Ieee.{Float, nan, inf, fin, binary32, up, down, odd, round, add, sub, mul, sum, neg, of_fields, of_bits, nan_bits}
use lib.Ieee.Exact.{HasValue, odd_sign}
use lib.Ieee.Fits.{down_pos}
use lib.Ieee.Scale.{round_same}

-- a fraction that is a whole number rounds to it
rounded : (A C n : ℕ) → 0 < C → n < 2 ^ 24 → A ≡ n * C → IsWhole (round binary32 false A C) n
rounded A C n P h e = subst (λ (z : Float). IsWhole z n) (sym (round_same binary32 false A C n 1 P (lit< tt) (mul-one A ∙ e))) (whole_number n h)

one : (a b : ℕ) → a * 1 ≡ b → a ≡ b
one a b e = sym (mul-one a) ∙ e

pub mul_whole : (x y : Float) (a b : ℕ) → IsWhole x a → IsWhole y b → a * b < 2 ^ 24 → IsWhole (mul binary32 x y) (a * b)
unfolding mul
mul_whole nan y a b v u h = absurd v
mul_whole (inf s) y a b v u h = absurd v
mul_whole (fin true m e) y a b v u h = absurd (true≢false v.0)
mul_whole (fin false m e) nan a b v u h = absurd u
mul_whole (fin false m e) (inf t) a b v u h = absurd u
mul_whole (fin false m e) (fin true n d) a b v u h = absurd (true≢false u.0)
mul_whole (fin false m e) (fin false n d) a b v u h =
    rounded (m * up e * (n * up d)) (down e * down d) (a * b) (mul-pos (down_pos e) (down_pos d)) h
    (ap (λ (z : ℕ). z * (n * up d)) (one (m * up e) (a * down e) v.1) ∙ ap (λ (z : ℕ). a * down e * z) (one (n * up d) (b * down d) u.1) ∙ mul-mul-mul_comm a (down e) b (down d))

pub add_whole : (x y : Float) (a b : ℕ) → IsWhole x a → IsWhole y b → a + b < 2 ^ 24 → IsWhole (add binary32 x y) (a + b)
unfolding add sum
add_whole nan y a b v u h = absurd v
add_whole (inf s) y a b v u h = absurd v
add_whole (fin true m e) y a b v u h = absurd (true≢false v.0)
add_whole (fin false m e) nan a b v u h = absurd u
add_whole (fin false m e) (inf t) a b v u h = absurd u
add_whole (fin false m e) (fin true n d) a b v u h = absurd (true≢false u.0)
add_whole (fin false m e) (fin false n d) a b v u h =
    rounded (m * up e * down d + n * up d * down e) (down e * down d) (a + b) (mul-pos (down_pos e) (down_pos d)) h
    (ap (λ (z : ℕ). z * down d + n * up d * down e) (one (m * up e) (a * down e) v.1) ∙ ap (λ (z : ℕ). a * down e * down d + z * down e) (one (n * up d) (b * down d) u.1) ∙ joined a b (down e) (down d))
  where
    joined : (a b E D : ℕ) → a * E * D + b * D * E ≡ (a + b) * (E * D)
    joined a b E D =
        let p : a * E * D ≡ a * (E * D) = mul_assoc a E D in
        let q : b * D * E ≡ b * (E * D) = mul_assoc b D E ∙ ap (λ (z : ℕ). b * z) (mul_comm D E) in
        let r : (a + b) * (E * D) ≡ a * (E * D) + b * (E * D) = add-mul a b (E * D) in
        omega arith

pub sub_whole : (x y : Float) (a b : ℕ) → IsWhole x a → IsWhole y b → b ≤ a → a - b < 2 ^ 24 → IsWhole (sub binary32 x y) (a - b)
unfolding sub add sum neg
sub_whole nan y a b v u l h = absurd v
sub_whole (inf s) y a b v u l h = absurd v
sub_whole (fin true m e) y a b v u l h = absurd (true≢false v.0)
sub_whole (fin false m e) nan a b v u l h = absurd u
sub_whole (fin false m e) (inf t) a b v u l h = absurd u
sub_whole (fin false m e) (fin true n d) a b v u l h = absurd (true≢false u.0)
sub_whole (fin false m e) (fin false n d) a b v u l h =
    rw (later (m * up e * down d) (n * up d * down e) (a * (down e * down d)) (b * (down e * down d)) f g (mul-le-mul_right (down e * down d) l))
    (rounded (m * up e * down d - n * up d * down e) (down e * down d) (a - b) (mul-pos (down_pos e) (down_pos d)) h
    (ap (λ (z : ℕ). z - n * up d * down e) f ∙ ap (λ (z : ℕ). a * (down e * down d) - z) g ∙ parted a b (down e * down d)))
  where
    f : m * up e * down d ≡ a * (down e * down d)
    f = ap (λ (z : ℕ). z * down d) (one (m * up e) (a * down e) v.1) ∙ mul_assoc a (down e) (down d)

    g : n * up d * down e ≡ b * (down e * down d)
    g = ap (λ (z : ℕ). z * down e) (one (n * up d) (b * down d) u.1) ∙ mul_assoc b (down d) (down e) ∙ ap (λ (z : ℕ). b * z) (mul_comm (down d) (down e))

    later : (p q r s : ℕ) → p ≡ r → q ≡ s → s ≤ r → ltb p q ≡ false
    later p q r s e k h = grind (arith, nat_tests)

    parted : (a b c : ℕ) → a * c - b * c ≡ (a - b) * c
    parted a b c = sym (mul_comm (a - b) c ∙ mul-sub c a b ∙ ap (λ (z : ℕ). z - c * b) (mul_comm c a) ∙ ap (λ (z : ℕ). a * c - z) (mul_comm c b))

-- ---- bits
leb_false : (a b : ℕ) → b < a → leb a b ≡ false
leb_false a b h = grind (arith, nat_tests)

lowered : (x : Float) (q c : ℕ) → 0 < c → HasValue x false (q * c) c → IsWhole x q
lowered nan q c P v = v
lowered (inf t) q c P v = v
lowered (fin t m e) q c P v = (v.0, mul-one (m * up e) ∙ eq_of_mul-eq-mul_right c P (m * up e) (q * down e) (v.1 ∙ mul_right_comm q c (down e)))

pub bits_whole : (t : ℕ) → t < 2 ^ 23 → IsWhole (of_bits binary32 (1258291200 + t)) (8388608 + t)
unfolding of_bits of_fields
bits_whole t h = rw (sign, field, rest) (lowered (odd 24 false (8388608 + t) 149 149) (8388608 + t) (2 ^ 149) (pow_pos 149) (odd_sign 24 false (8388608 + t) 149 149))
  where
    sign : leb (2 ^ 31) (1258291200 + t) ≡ false
    sign = leb_false (2 ^ 31) (1258291200 + t) (omega (arith, h))

    field : (1258291200 + t) % 2 ^ 31 / 2 ^ 23 ≡ 150
    field = omega (arith, h)

    rest : (1258291200 + t) % 2 ^ 23 ≡ t
    rest = omega (arith, h)

pub whole_is : (n : ℕ) → n < 2 ^ 23 → IsWhole (sub binary32 (of_bits binary32 (1258291200 + n)) (of_bits binary32 1258291200)) n
whole_is n h =
    subst (λ (z : ℕ). IsWhole (sub binary32 (of_bits binary32 (1258291200 + n)) (of_bits binary32 1258291200)) z) (omega arith)
    (sub_whole (of_bits binary32 (1258291200 + n)) (of_bits binary32 1258291200) (8388608 + n) 8388608 (bits_whole n h) (bits_whole 0 (lit< tt)) (omega arith) (omega (arith, h)))

eqb_false : (a b : ℕ) → a ≢ b → eqb a b ≡ false
eqb_false a b h = grind (arith, nat_tests)

-- bits below those of infinity
pub bits_number : (b : ℕ) → b < 255 * 2 ^ 23 → T (not (nan_bits binary32 b))
unfolding nan_bits
bits_number b h = rw (eqb_false (b % 2 ^ 31 / 2 ^ 23) 255 (λ e. omega arith)) tt
