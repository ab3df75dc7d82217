-- Fields at the front of a text: digits, colours, and the lines that they begin.
use Rattle.std.proofs.Common.{◌≡◌, ◌∙◌, ℕ, suc, ◌+◌, ◌*◌, ◌<◌, ◌≤◌, nat_le, Bool, true, false, not, ◌&&◌, List, [], ◌∷◌, ◌++◌, map, filter, length, Result, Ok, Err, refl, subst, ap, sym, arith}
use Rattle.std.specs.Prelude.{ℤ, pos, nat_abs, ◌==◌, int_le, ◌≤ℤ◌}
use borrow.Author.Differences.{ints}
use Rattle.std.specs.Char.{is_ascii_digit, digit_value}
use Rattle.std.specs.List.{list_all, slice_split, onto_first}
use Rattle.std.proofs.lemmas.List.Splits.{slice_split-cons_yes, slice_split-cons_no}
use Rattle.std.specs.Str.Parse.{digits_value}
use Rattle.std.specs.Int.Digits.{number_from_digits, AllBelowBase}
use Rattle.std.proofs.lemmas.Int.Digits.{digits_value_is}
use Rattle.std.proofs.lemmas.Bool.{eqb-true}
use Rattle.std.proofs.lemmas.Bool.Decides.{nat_tests}
use Rattle.std.proofs.lemmas.Grind.{common_steps}
use Rattle.script_lines.specs.Lines.{is_blank, fields, lines}
use Rattle.script_lines.specs.declared.cause.Cause.{Cause}
use Rattle.script_lines.specs.declared.cause.Cause.TheVariants.{Number}
use Rattle.pixel_core.specs.Rgba.{Rgba}
use Rattle.script_lines.specs.Colours.{pixel_by}
use Rattle.script_lines.specs.Values.{hex_digit, hex_byte, rgba, ◌>>=◌, is_magnitude, magnitude, number, number_in, natural}
use Rattle.script_lines.specs.Fronts.{is_some_field, Begins, is_plain, is_field, with_field}
use Rattle.script_lines.proofs.SpelledPixels.{drop_is}

pub first : (a b : Bool) → (a && b) ≡ true → a ≡ true
first true b k = refl
first false b k = k

pub second : (a b : Bool) → (a && b) ≡ true → b ≡ true
second true b k = k
second false b k = absurd (cc (k))

pub both : (a b : Bool) → a ≡ true → b ≡ true → (a && b) ≡ true
both a b h k = rw (h, k) refl

-- digits

no_minus : (b : ℕ) → is_ascii_digit b ≡ true → (b == 45) ≡ false
no_minus b h = grind (arith, nat_tests, common_steps)

pub magnitude_by : (ds : List ℕ) → is_magnitude ds ≡ true → magnitude ds ≡ Ok (digits_value 10 ds)
unfolding magnitude
magnitude_by ds h = rw h refl

pub plain_number : (ds : List ℕ) → is_magnitude ds ≡ true → number ds ≡ Ok (pos (digits_value 10 ds))
unfolding number
plain_number [] h = absurd (cc (h))
plain_number (b ∷ bs) h =
    let all = second (nat_le 1 (length (b ∷ bs)) && nat_le (length (b ∷ bs)) 10) (list_all is_ascii_digit (b ∷ bs)) h in
    rw (no_minus b (first (is_ascii_digit b) (list_all is_ascii_digit bs) all), magnitude_by (b ∷ bs) h) refl

-- how digits of those worths are written
abbrev pub written : List ℕ → List ℕ
written ds = map (λ d. 48 + d) ds

is_digit : (d : ℕ) → d < 10 → is_ascii_digit (48 + d) ≡ true
is_digit d h = grind (arith, nat_tests, common_steps)

digit_plain : (d : ℕ) → d < 10 → is_plain (48 + d) ≡ true
digit_plain d h = grind (arith, nat_tests, common_steps)

worth : (d : ℕ) → d < 10 → digit_value (48 + d) ≡ d
worth d h = grind (arith, nat_tests, common_steps)

all_digits : (ds : List ℕ) → AllBelowBase 10 ds → list_all is_ascii_digit (written ds) ≡ true
all_digits [] h = refl
all_digits (d ∷ ds) h = both _ _ (is_digit d h.0) (all_digits ds h.1)

all_plain : (ds : List ℕ) → AllBelowBase 10 ds → list_all is_plain (written ds) ≡ true
all_plain [] h = refl
all_plain (d ∷ ds) h = both _ _ (digit_plain d h.0) (all_plain ds h.1)

all_worth : (ds : List ℕ) → AllBelowBase 10 ds → map digit_value (written ds) ≡ ds
all_worth [] h = refl
all_worth (d ∷ ds) h = λ i. worth d h.0 i ∷ all_worth ds h.1 i

value_of : (ds : List ℕ) → AllBelowBase 10 ds → digits_value 10 (written ds) ≡ number_from_digits 10 ds
value_of ds h = digits_value_is 10 (written ds) ∙ ap (number_from_digits 10) (all_worth ds h)

some_field : (x : ℕ) (xs : List ℕ) → is_some_field (x ∷ xs) ≡ true
some_field x xs = go (suc (length xs)) (omega arith)
  where
    go : (n : ℕ) → 0 < n → not (n == 0) ≡ true
    go n h = grind (arith, nat_tests)

as_many : (ds : List ℕ) → length (written ds) ≡ length ds
as_many [] = refl
as_many (d ∷ ds) = ap suc (as_many ds)

-- one to ten digits and the mark that ends them
pub digits_first : (mark n : ℕ) (text behind : List ℕ) (d : ℕ) (ds : List ℕ) → AllBelowBase 10 (d ∷ ds) → length ds ≤ 9 → text ≡ written (d ∷ ds) ++ mark ∷ behind → n ≡ number_from_digits 10 (d ∷ ds) → Begins number mark text (pos n) behind
digits_first mark n text behind d ds h few e v =
    let l : length (written ds) ≤ 9 = omega (arith, few, as_many ds) in
    let some : nat_le 1 (suc (length (written ds))) ≡ true = grind (arith, nat_tests) in
    let k : nat_le (suc (length (written ds))) 10 ≡ true = grind (arith, nat_tests) in
    record {
      field = written (d ∷ ds);
      is_field = both _ _ (some_field (48 + d) (written ds)) (all_plain (d ∷ ds) h);
      told = plain_number (written (d ∷ ds)) (both _ _ (both _ _ some k) (all_digits (d ∷ ds) h)) ∙ ap (λ m. Ok (pos m)) (value_of (d ∷ ds) h ∙ sym v);
      front = e;
    }

-- a number in its range

pub in_number : (low high z : ℤ) (field : List ℕ) → number field ≡ Ok z → int_le low z ≡ true → int_le z high ≡ true → number_in low high field ≡ Ok z
unfolding number_in
in_number low high z field e a b = rw (e, a, b) refl

pub in_natural : (low high n : ℕ) (field : List ℕ) → number field ≡ Ok (pos n) → nat_le low n ≡ true → nat_le n high ≡ true → natural low high field ≡ Ok n
unfolding natural
in_natural low high n field e a b = ap (λ r. r >>= λ z. Ok (nat_abs z)) (in_number (pos low) (pos high) (pos n) field e a b)

pub natural_first : (low high mark n : ℕ) (text behind : List ℕ) → Begins number mark text (pos n) behind → low ≤ n → n ≤ high → Begins (natural low high) mark text n behind
natural_first low high mark n text behind is a b =
    let l : nat_le low n ≡ true = grind (arith, nat_tests) in
    let h : nat_le n high ≡ true = grind (arith, nat_tests) in
    record { field = is.field; is_field = is.is_field; told = in_natural low high n is.field is.told l h; front = is.front }

pub number_first : (low high z : ℤ) (mark : ℕ) (text behind : List ℕ) → Begins number mark text z behind → low ≤ℤ z → z ≤ℤ high → Begins (number_in low high) mark text z behind
number_first low high z mark text behind is a b =
    let l : int_le low z ≡ true = grind (arith, ints) in
    let h : int_le z high ≡ true = grind (arith, ints) in
    record { field = is.field; is_field = is.is_field; told = in_number low high z is.field is.told l h; front = is.front }

-- colours

other_than : (x b v : ℕ) → hex_digit x ≡ Err Number → hex_digit b ≡ Ok v → (b == x) ≡ false
other_than x b v none is = go (b == x) refl
  where
    go : (t : Bool) → (b == x) ≡ t → t ≡ false
    go true e = let same : b ≡ x = eqb-true _ _ e in absurd (cc (none, is, ap hex_digit same))
    go false e = refl

plain_digit : (b v : ℕ) → hex_digit b ≡ Ok v → is_plain b ≡ true
plain_digit b v h = rw (other_than 32 b v refl h, other_than 9 b v refl h, other_than 13 b v refl h, other_than 10 b v refl h) refl

record PlainPair (a b : ℕ) : Type 0 where
  high : is_plain a ≡ true
  low : is_plain b ≡ true

plain_pair : (a b v : ℕ) → hex_byte a b ≡ Ok v → PlainPair a b
unfolding hex_byte
plain_pair a b v h = go (hex_digit a) (hex_digit b) refl refl h
  where
    go : (r s : Result ℕ Cause) → hex_digit a ≡ r → hex_digit b ≡ s → (r >>= λ x. s >>= λ y. Ok (16 * x + y)) ≡ Ok v → PlainPair a b
    go (Ok x) (Ok y) e f k = record { high = plain_digit a x e; low = plain_digit b y f }
    go (Ok x) (Err c) e f k = absurd (cc (k))
    go (Err c) s e f k = absurd (cc (k))

eight_bytes : (a b c d e f g h : ℕ) (p : Rgba) → rgba (a ∷ b ∷ c ∷ d ∷ e ∷ f ∷ g ∷ h ∷ []) ≡ Ok p → is_field (a ∷ b ∷ c ∷ d ∷ e ∷ f ∷ g ∷ h ∷ []) ≡ true
unfolding rgba
eight_bytes a b c d e f g h p is = go (hex_byte a b) (hex_byte c d) (hex_byte e f) (hex_byte g h) refl refl refl refl is
  where
    all : PlainPair a b → PlainPair c d → PlainPair e f → PlainPair g h → is_field (a ∷ b ∷ c ∷ d ∷ e ∷ f ∷ g ∷ h ∷ []) ≡ true
    all i j k l = both _ _ i.high (both _ _ i.low (both _ _ j.high (both _ _ j.low (both _ _ k.high (both _ _ k.low (both _ _ l.high (both _ _ l.low refl)))))))

    go : (r s t u : Result ℕ Cause) → hex_byte a b ≡ r → hex_byte c d ≡ s → hex_byte e f ≡ t → hex_byte g h ≡ u → pixel_by r s t u ≡ Ok p → is_field (a ∷ b ∷ c ∷ d ∷ e ∷ f ∷ g ∷ h ∷ []) ≡ true
    go (Ok w) (Ok x) (Ok y) (Ok z) i j k l m = all (plain_pair a b w i) (plain_pair c d x j) (plain_pair e f y k) (plain_pair g h z l)
    go (Ok w) (Ok x) (Ok y) (Err q) i j k l m = absurd (cc (m))
    go (Ok w) (Ok x) (Err q) u i j k l m = absurd (cc (m))
    go (Ok w) (Err q) t u i j k l m = absurd (cc (m))
    go (Err q) s t u i j k l m = absurd (cc (m))

-- eight bytes that spell a colour, and the mark that ends them
pub colour_first : (mark : ℕ) (text field rest behind : List ℕ) (p : Rgba) → length field ≡ 8 → rgba field ≡ Ok p → text ≡ field ++ rest → rest ≡ mark ∷ behind → Begins rgba mark text p behind
colour_first mark text field rest behind p size is t r = record {
  field = field;
  is_field = subst (λ f. rgba f ≡ Ok p → is_field f ≡ true) (sym (drop_is field 0 8 (omega (arith, size)))) (eight_bytes _ _ _ _ _ _ _ _ p) is;
  told = is;
  front = t ∙ ap (λ l. field ++ l) r;
}

-- lines

no_from : (a : Bool) → not a ≡ true → a ≡ false
no_from true h = absurd (cc (h))
no_from false h = refl

-- the piece before an item that passes, where none in it does
pub cut : (p : ℕ → Bool) (xs : List ℕ) (y : ℕ) (ys : List ℕ) → list_all (λ b. not (p b)) xs ≡ true → p y ≡ true → slice_split p (xs ++ y ∷ ys) ≡ xs ∷ slice_split p ys
cut p [] y ys h k = slice_split-cons_yes p y ys k
cut p (x ∷ xs) y ys h k = slice_split-cons_no p x (xs ++ y ∷ ys) (no_from (p x) (first _ _ h)) ∙ ap (onto_first x) (cut p xs y ys (second _ _ h) k)

pub whole : (p : ℕ → Bool) (xs : List ℕ) → list_all (λ b. not (p b)) xs ≡ true → slice_split p xs ≡ xs ∷ []
whole p [] h = refl
whole p (x ∷ xs) h = slice_split-cons_no p x xs (no_from (p x) (first _ _ h)) ∙ ap (onto_first x) (whole p xs (second _ _ h))

-- some items in front of the first piece
abbrev onto_front : List ℕ → List (List ℕ) → List (List ℕ)
onto_front [] parts = parts
onto_front (x ∷ xs) parts = onto_first x (onto_front xs parts)

uncut : (p : ℕ → Bool) (xs ys : List ℕ) → list_all (λ b. not (p b)) xs ≡ true → slice_split p (xs ++ ys) ≡ onto_front xs (slice_split p ys)
uncut p [] ys h = refl
uncut p (x ∷ xs) ys h = slice_split-cons_no p x (xs ++ ys) (no_from (p x) (first _ _ h)) ∙ ap (onto_first x) (uncut p xs ys (second _ _ h))

front_of : (xs part : List ℕ) (parts : List (List ℕ)) → onto_front xs (part ∷ parts) ≡ (xs ++ part) ∷ parts
front_of [] part parts = refl
front_of (x ∷ xs) part parts = ap (onto_first x) (front_of xs part parts)

pub no_blanks : (xs : List ℕ) → list_all is_plain xs ≡ true → list_all (λ b. not (is_blank b)) xs ≡ true
no_blanks [] h = refl
no_blanks (x ∷ xs) h = both _ _ (first _ _ (first _ _ h)) (no_blanks xs (second _ _ h))

pub no_feeds : (xs : List ℕ) → list_all is_plain xs ≡ true → list_all (λ b. not (b == 10)) xs ≡ true
no_feeds [] h = refl
no_feeds (x ∷ xs) h = both _ _ (second (not (is_blank x)) _ (first _ _ h)) (no_feeds xs (second _ _ h))

kept : (f : List ℕ) (fs : List (List ℕ)) → is_some_field f ≡ true → filter is_some_field (f ∷ fs) ≡ f ∷ filter is_some_field fs
kept f fs h = rw h refl

-- the fields of a line that begins with a field and a space
field_first : (f line : List ℕ) → is_field f ≡ true → fields (f ++ 32 ∷ line) ≡ f ∷ fields line
field_first f line h = ap (filter is_some_field) (cut is_blank f 32 line (no_blanks f (second _ _ h)) refl) ∙ kept f (slice_split is_blank line) (first _ _ h)

-- the lines of a text that begins with a field and a space
space_behind : (f text : List ℕ) → is_field f ≡ true → lines (f ++ 32 ∷ text) ≡ with_field f (lines text)
space_behind f text h = ap (map fields) (uncut (λ b. b == 10) f (32 ∷ text) (no_feeds f (second _ _ h)) ∙ ap (onto_front f) (slice_split-cons_no (λ b. b == 10) 32 text refl)) ∙ go (slice_split (λ b. b == 10) text)
  where
    go : (parts : List (List ℕ)) → map fields (onto_front f (onto_first 32 parts)) ≡ with_field f (map fields parts)
    go [] = ap (map fields) (front_of f (32 ∷ []) []) ∙ ap (λ l. l ∷ []) (field_first f [] h)
    go (part ∷ parts) = ap (map fields) (front_of f (32 ∷ part) parts) ∙ ap (λ l. l ∷ map fields parts) (field_first f part h)

-- the lines of a text that begins with a field and a line feed
feed_behind : (f text : List ℕ) → is_field f ≡ true → lines (f ++ 10 ∷ text) ≡ (f ∷ []) ∷ lines text
feed_behind f text h = ap (map fields) (cut (λ b. b == 10) f 10 text (no_feeds f (second _ _ h)) refl) ∙ ap (λ l. l ∷ lines text) (ap (filter is_some_field) (whole is_blank f (no_blanks f (second _ _ h))) ∙ kept f [] (first _ _ h))

pub space_lines : {A : Type 0} (says : List ℕ → Result A Cause) (text : List ℕ) (v : A) (behind : List ℕ) (b : Begins says 32 text v behind) → lines text ≡ with_field b.field (lines behind)
space_lines says text v behind b = ap lines b.front ∙ space_behind b.field behind b.is_field

pub feed_lines : {A : Type 0} (says : List ℕ → Result A Cause) (text : List ℕ) (v : A) (behind : List ℕ) (b : Begins says 10 text v behind) → lines text ≡ (b.field ∷ []) ∷ lines behind
feed_lines says text v behind b = ap lines b.front ∙ feed_behind b.field behind b.is_field
