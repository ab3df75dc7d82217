-- Reading digits one after the other, as a loop does.
use Rattle.std.proofs.Common.{◌≡◌, ℕ, ◌+◌, ◌*◌, ◌-◌, ◌<◌, true, List, length, get_or, take, refl, ◌∙◌, arith}
use Rattle.std.specs.List.{list_all}
use Rattle.std.specs.Char.{is_ascii_digit, digit_value}
use Rattle.std.specs.Str.Parse.{digits_value}
use Rattle.std.proofs.lemmas.List.Folds.{list_all_more}
use Rattle.std.proofs.lemmas.Int.Digits.{digits_value_more}
use Rattle.std.proofs.lemmas.Grind.{common_steps}

-- one more digit
pub all_more : (xs : List ℕ) (i : ℕ) → i < length xs → list_all is_ascii_digit (take i xs) ≡ true → is_ascii_digit (get_or xs i 0) ≡ true → list_all is_ascii_digit (take (i + 1) xs) ≡ true
all_more xs i h a b = list_all_more is_ascii_digit xs i 0 h ∙ rw (a, b) refl

-- what a digit is worth
pub digit : (c : ℕ) → is_ascii_digit c ≡ true → digit_value c ≡ c - 48
digit c h = grind (arith, common_steps)

-- the number with one more digit
pub value_more : (xs : List ℕ) (i n : ℕ) → i < length xs → n ≡ digits_value 10 (take i xs) → is_ascii_digit (get_or xs i 0) ≡ true → 10 * n + (get_or xs i 0 - 48) ≡ digits_value 10 (take (i + 1) xs)
value_more xs i n h so_far d =
    let more = digits_value_more 10 xs i h in
    let value = digit (get_or xs i 0) d in
    omega arith
