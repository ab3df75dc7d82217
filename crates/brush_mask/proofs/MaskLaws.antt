-- What masks keep to.
use Rattle.std.proofs.Common.{◌≡◌, ℕ, ◌+◌, ◌-◌, ◌*◌, ◌/◌, ◌≤◌, ◌<◌, Bool, true, false, arith, ap, ◌∙◌, refl, ◌⊎◌, inl, inr}
use Rattle.std.specs.Prelude.{if◌then◌else◌, ℤ, pos, ◌-ℤ◌, nat_abs, nat_lt}
use borrow.Author.Differences.{ints}
use Rattle.std.proofs.lemmas.Bool.Decides.{nat_tests}
use Rattle.std.proofs.Math.Nat.{div-le_of_le-mul, mul-div_cancel}
use Rattle.brush_mask.specs.Mask.{mask, inside, distance2}
use Rattle.brush_mask.specs.Laws.{LawsOfTheCircle, LawsOfTheSides, LawsOfHardness}

-- the strength by the two squares alone
abbrev by_squares : Bool → ℕ → ℕ → ℕ
by_squares soft r2 d2 = if nat_lt r2 d2 then 0 else inside soft r2 d2

outside : (soft : Bool) (r2 d2 : ℕ) → r2 < d2 → by_squares soft r2 d2 ≡ 0
outside soft r2 d2 h = rw (let e : nat_lt r2 d2 ≡ true = grind (arith, nat_tests) in e) refl

not_outside : (soft : Bool) (r2 d2 : ℕ) → d2 ≤ r2 → by_squares soft r2 d2 ≡ inside soft r2 d2
not_outside soft r2 d2 h = rw (let e : nat_lt r2 d2 ≡ false = grind (arith, nat_tests) in e) refl

full : (soft : Bool) (r2 : ℕ) → inside soft r2 0 ≡ 255
full true r2 =
    let some : 0 < r2 + 1 = omega arith in
    let all : (r2 + 1) - 0 ≡ r2 + 1 = omega arith in
    ap (λ n. (255 * n) / (r2 + 1)) all ∙ mul-div_cancel 255 some
full false r2 = refl

centre : (r : ℕ) (soft : Bool) → mask r soft (pos 0) (pos 0) ≡ 255
unfolding mask
centre r soft = not_outside soft (r * r) 0 (omega arith) ∙ full soft (r * r)

pub laws_of_the_circle : LawsOfTheCircle
unfolding mask
laws_of_the_circle = record { outside = λ r soft dx dy h. outside soft (r * r) (distance2 dx dy) h; centre = centre }

opposite : (n : ℤ) → nat_abs (pos 0 -ℤ n) ≡ nat_abs n
opposite n = grind (arith, ints)

pub laws_of_the_sides : LawsOfTheSides
unfolding mask
laws_of_the_sides = record {
  across = λ r soft dx dy. ap (λ n. by_squares soft (r * r) (n * n + nat_abs dy * nat_abs dy)) (opposite dx);
  down = λ r soft dx dy. ap (λ n. by_squares soft (r * r) (nat_abs dx * nat_abs dx + n * n)) (opposite dy);
  swapped = λ r soft dx dy. ap (by_squares soft (r * r)) (let e : distance2 dy dx ≡ distance2 dx dy = omega arith in e);
}

hard_or_none : (r2 d2 : ℕ) (t : Bool) → ((if t then 0 else inside false r2 d2) ≡ 0) ⊎ ((if t then 0 else inside false r2 d2) ≡ 255)
hard_or_none r2 d2 true = inl refl
hard_or_none r2 d2 false = inr refl

fallen_byte : (r2 d2 : ℕ) → inside true r2 d2 ≤ 255
fallen_byte r2 d2 = div-le_of_le-mul (r2 + 1) (let most : 255 * ((r2 + 1) - d2) ≤ (r2 + 1) * 255 = omega arith in most)

softer : (r2 d2 : ℕ) (t : Bool) → (if t then 0 else inside true r2 d2) ≤ (if t then 0 else inside false r2 d2)
softer r2 d2 true = omega arith
softer r2 d2 false = fallen_byte r2 d2

pub laws_of_hardness : LawsOfHardness
unfolding mask
laws_of_hardness = record {
  hard = λ r dx dy. hard_or_none (r * r) (distance2 dx dy) (nat_lt (r * r) (distance2 dx dy));
  softer = λ r dx dy. softer (r * r) (distance2 dx dy) (nat_lt (r * r) (distance2 dx dy));
}
