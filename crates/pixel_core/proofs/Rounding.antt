-- Rounding to the nearest whole number, and products of fractions.
use Rattle.std.proofs.Common.{◌≡◌, ℕ, ◌+◌, ◌*◌, ◌/◌, ◌≤◌, ◌<◌, arith, ap, ◌∙◌}
use Rattle.std.proofs.lemmas.Nat.{div-mul-add}
use Rattle.pixel_core.specs.Bytes.{IsNearest}
use Rattle.pixel_core.specs.Compose.{mul, nearest}
use Rattle.pixel_core.specs.Laws.{LawsOfMul}

-- a whole number is the nearest to itself
pub exact : (w x : ℕ) → 0 < w → nearest (w * x) w ≡ x
exact w x h =
    let e : 2 * (w * x) + w ≡ x * (2 * w) + w = grind arith in
    ap (λ n. n / (2 * w)) e ∙ div-mul-add x (2 * w) w (omega arith)

pub exact_at : (n v w x : ℕ) → n ≡ w * x → v ≡ w → 0 < w → nearest n v ≡ x
exact_at n v w x e f h = rw (e, f) (exact w x h)

-- two shifts divide by 255 and round
pub shifts : (n : ℕ) → n ≤ 65025 → ((n + 128) / 256 + (n + 128)) / 256 ≡ nearest n 255
shifts n h = omega arith

-- there are no ties among 255ths
pub no_ties : (n : ℕ) → IsNearest (nearest n 255) n 255
no_ties n = record { not_above = omega arith; not_below = omega arith }

pub product_most : (a b : ℕ) → a ≤ 255 → b ≤ 255 → a * b ≤ 65025
product_most a b p q = grind arith

pub mul_byte : (a b : ℕ) → a ≤ 255 → b ≤ 255 → mul a b ≤ 255
unfolding mul
mul_byte a b p q = let h : a * b ≤ 65025 = product_most a b p q in omega arith

pub whole : (a : ℕ) → mul a 255 ≡ a
unfolding mul
whole a = omega arith

pub nothing : (a : ℕ) → mul a 0 ≡ 0
unfolding mul
nothing a = omega arith

either_way : (a b : ℕ) → mul a b ≡ mul b a
unfolding mul
either_way a b = ap (λ n. nearest n 255) (let e : a * b ≡ b * a = omega arith in e)

no_more : (a b : ℕ) → b ≤ 255 → mul a b ≤ a
unfolding mul
no_more a b h = let p : a * b ≤ 255 * a = grind arith in omega arith

pub laws_of_mul : LawsOfMul
laws_of_mul = record { whole = whole; nothing = nothing; either_way = either_way; no_more = no_more }
