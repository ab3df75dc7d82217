-- The digits of a colour, each by a table, and taken one by one.
use Rattle.std.proofs.Common.{Ok, Err, ◌≡◌, ◌==◌, ◌∙◌, ℕ, zero, suc, ◌+◌, ◌-◌, ◌<◌, ◌≤◌, Bool, true, false, if◌then◌else◌, refl, subst, eq-or-lt_of_le, inl, inr, List, [], ◌∷◌, length, get_or, drop, ap, sym, arith}
use Rattle.std.proofs.lemmas.Bool.{eqb-true}
use Rattle.std.proofs.Math.Seq.{drop-cons}
use Rattle.std.proofs.Math.ListN.{drop_of_length-le}
use Rattle.script_lines.specs.Colours.{digit_or_more, pixel_by}
use Rattle.script_lines.specs.declared.cause.Cause.TheVariants.{Number}
use Rattle.script_lines.specs.Values.{hex_byte, rgb, rgba}
use Rattle.script_lines.specs.declared.colours.TheConstants.{WORTHS}

-- whether the table has the values of the first n characters from 0 on
abbrev is_right : ℕ → Bool
is_right zero = true
is_right (suc n) = if get_or WORTHS n 0 == digit_or_more (48 + n) then is_right n else false

right_at : (n k : ℕ) → k < n → is_right n ≡ true → get_or WORTHS k 0 ≡ digit_or_more (48 + k)
right_at zero k h e = absurd (omega (arith, h))
right_at (suc n) k h e = go (right_at n k) (get_or WORTHS n 0 == digit_or_more (48 + n)) refl e
  where
    go : (k < n → is_right n ≡ true → get_or WORTHS k 0 ≡ digit_or_more (48 + k)) → (b : Bool) → (get_or WORTHS n 0 == digit_or_more (48 + n)) ≡ b → (if b then is_right n else false) ≡ true → get_or WORTHS k 0 ≡ digit_or_more (48 + k)
    go under false same right = absurd (cc right)
    go under true same right = elim (eq-or-lt_of_le {n = k} {m = n} (omega (arith, h))) [
      | inl here ↦ subst (λ m. get_or WORTHS m 0 ≡ digit_or_more (48 + m)) (sym here) (eqb-true _ _ same)
      | inr below ↦ under below right
    ]

pub worth : (digit : ℕ) → 48 ≤ digit → digit ≤ 102 → get_or WORTHS (digit - 48) 0 ≡ digit_or_more digit
worth digit low high =
    let same : 48 + (digit - 48) ≡ digit = omega (arith, low) in
    right_at 55 (digit - 48) (omega (arith, low, high)) refl ∙ ap digit_or_more same

-- n items from place i on
abbrev pub items : List ℕ → ℕ → ℕ → List ℕ
items xs i zero = []
items xs i (suc n) = get_or xs i 0 ∷ items xs (suc i) n

pub drop_is : (xs : List ℕ) (i n : ℕ) → i + n ≡ length xs → drop i xs ≡ items xs i n
drop_is xs i zero h = drop_of_length-le xs {i = i} (omega (arith, h))
drop_is xs i (suc n) h = drop-cons xs i 0 (omega (arith, h)) ∙ ap (λ l. get_or xs i 0 ∷ l) (drop_is xs (suc i) n (omega (arith, h)))

pub eight : (xs : List ℕ) → length xs ≡ 8 → pixel_by (hex_byte (get_or xs 0 0) (get_or xs 1 0)) (hex_byte (get_or xs 2 0) (get_or xs 3 0)) (hex_byte (get_or xs 4 0) (get_or xs 5 0)) (hex_byte (get_or xs 6 0) (get_or xs 7 0)) ≡ rgba xs
unfolding rgba
eight xs h = sym (ap rgba (drop_is xs 0 8 (omega (arith, h))))

-- six digits, and those of an opaque alpha
pub six : (xs : List ℕ) → length xs ≡ 6 → pixel_by (hex_byte (get_or xs 0 0) (get_or xs 1 0)) (hex_byte (get_or xs 2 0) (get_or xs 3 0)) (hex_byte (get_or xs 4 0) (get_or xs 5 0)) (Ok 255) ≡ rgb xs
unfolding hex_byte rgba rgb
six xs h = sym (ap rgb (drop_is xs 0 6 (omega (arith, h))))

pub not_six : (xs : List ℕ) → (length xs == 6) ≡ false → rgb xs ≡ Err Number
unfolding rgba rgb
not_six [] h = refl
not_six (a ∷ []) h = refl
not_six (a ∷ b ∷ []) h = refl
not_six (a ∷ b ∷ c ∷ []) h = refl
not_six (a ∷ b ∷ c ∷ d ∷ []) h = refl
not_six (a ∷ b ∷ c ∷ d ∷ e ∷ []) h = refl
not_six (a ∷ b ∷ c ∷ d ∷ e ∷ f ∷ []) h = absurd (cc h)
not_six (a ∷ b ∷ c ∷ d ∷ e ∷ f ∷ g ∷ []) h = refl
not_six (a ∷ b ∷ c ∷ d ∷ e ∷ f ∷ g ∷ i ∷ []) h = refl
not_six (a ∷ b ∷ c ∷ d ∷ e ∷ f ∷ g ∷ i ∷ j ∷ xs) h = refl
