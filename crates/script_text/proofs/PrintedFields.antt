-- Numbers and colours read back as they were printed.
use Rattle.std.proofs.Common.{◌≡◌, ℕ, ◌/◌, ◌%◌, ◌<◌, ◌≤◌, ◌^◌, suc, zero, true, false, ◌&&◌, nat_le, nat_lt, List, ◌∷◌, length, Ok, refl, sym, ap, ◌∙◌, arith, rules}
use Rattle.std.specs.Prelude.{ℤ, pos, negsuc, neg_ℤ, int_le, ◌==◌, if◌then◌else◌}
use Rattle.std.specs.List.{list_all}
use Rattle.std.specs.Char.{is_ascii_digit, digit_char}
use Rattle.std.specs.Str.Parse.{digits_value}
use Rattle.std.specs.Fmt.{decimal, signed_decimal}
use Rattle.std.proofs.lemmas.Bool.Decides.{nat_tests}
use Rattle.std.proofs.lemmas.Str.{digit_value-digit_char}
use Rattle.std.proofs.lemmas.Str.Parse.{IsNumeralModel, numerals_by_value}
use Rattle.std.proofs.lemmas.Fmt.{decimal_is_IsNumeral, digits_decimal, length-decimal-le, decimal_nonempty}
use Rattle.pixel_core.specs.Rgba.{Rgba, if_canonical, rgba as pixel}
use Rattle.script_lines.specs.Colours.{is_byte, is_pixel}
use Rattle.script_lines.specs.Values.{hex_byte, hex_digit, rgb, rgba, is_magnitude, number, number_in, natural}
use Rattle.script_lines.proofs.FieldLemmas.{first, second, magnitude_by, plain_number, in_natural, in_number}
use Rattle.script_text.specs.Text.{rgb_text, rgba_text}

own : IsNumeralModel (λ ds. list_all is_ascii_digit ds ≡ true) (digits_value 10)
own = numerals_by_value _ (search rules)

pub digits_of : (n : ℕ) → n < 2 ^ 64 → list_all is_ascii_digit (decimal n) ≡ true
digits_of n h = digits_decimal own n h

magnitude_of : (n : ℕ) → n < 10 ^ 10 → is_magnitude (decimal n) ≡ true
magnitude_of n h = go (length (decimal n)) (decimal_nonempty n (omega arith)) (length-decimal-le 10 n (omega arith) h (omega arith))
  where
    go : (k : ℕ) → 0 < k → k ≤ 10 → ((nat_le 1 k && nat_le k 10) && list_all is_ascii_digit (decimal n)) ≡ true
    go k a b =
        let l : nat_le 1 k ≡ true = grind (arith, nat_tests) in
        let m : nat_le k 10 ≡ true = grind (arith, nat_tests) in
        rw (l, m, digits_of n (omega arith)) refl

value_of : (n : ℕ) → n < 10 ^ 10 → digits_value 10 (decimal n) ≡ n
value_of n h = (decimal_is_IsNumeral n (omega arith)).1

minus_number : (ds : List ℕ) → is_magnitude ds ≡ true → number (45 ∷ ds) ≡ Ok (neg_ℤ (pos (digits_value 10 ds)))
unfolding number
minus_number ds h = rw (magnitude_by ds h) refl

number_of : (n : ℕ) → n < 10 ^ 10 → number (decimal n) ≡ Ok (pos n)
number_of n h = plain_number (decimal n) (magnitude_of n h) ∙ ap (λ k. Ok (pos k)) (value_of n h)

-- a number in its range
pub natural_back : (low high n : ℕ) → n < 10 ^ 10 → nat_le low n ≡ true → nat_le n high ≡ true → natural low high (decimal n) ≡ Ok n
natural_back low high n h a b = in_natural low high n (decimal n) (number_of n h) a b

-- a number that may be below 0, in its range
pub signed_back : (k l : ℕ) (z : ℤ) → k < 10 ^ 9 → l < 10 ^ 9 → int_le (negsuc k) z ≡ true → int_le z (pos l) ≡ true → number_in (negsuc k) (pos l) (signed_decimal z) ≡ Ok z
signed_back k l (pos n) h m a b = in_number (negsuc k) (pos l) (pos n) (signed_decimal (pos n)) (number_of n (let le : n ≤ l = grind (arith, nat_tests) in omega arith)) a b
signed_back k l (negsuc n) h m a b =
    let le : n ≤ k = grind (arith, nat_tests) in
    in_number (negsuc k) (pos l) (negsuc n) (signed_decimal (negsuc n)) (minus_number (decimal (suc n)) (magnitude_of (suc n) (omega arith)) ∙ ap (λ k. Ok (neg_ℤ (pos k))) (value_of (suc n) (omega arith))) a b

digit_back : (d : ℕ) → d < 16 → hex_digit (digit_char d) ≡ Ok d
digit_back d h =
    let small : nat_lt d 16 ≡ true = grind (arith, nat_tests) in
    rw (digit_value-digit_char d (omega arith), small) refl

byte_back : (n : ℕ) → is_byte n ≡ true → hex_byte (digit_char (n / 16)) (digit_char (n % 16)) ≡ Ok n
unfolding hex_byte
byte_back n h =
    let le : n ≤ 255 = grind (arith, nat_tests) in
    rw (digit_back (n / 16) (omega arith), digit_back (n % 16) (omega arith)) (ap Ok (omega arith))

canonical_by : (r g b a : ℕ) → (if a == 0 then ((r == 0 && g == 0) && b == 0) else true) ≡ true → if_canonical r g b a ≡ pixel r g b a
canonical_by r g b (suc a) h = rw (let e : (suc a == 0) ≡ false = grind (arith, nat_tests) in e) refl
canonical_by r g b zero h =
    let low = first (r == 0 && g == 0) (b == 0) h in
    let r0 : (r == 0) ≡ true = first (r == 0) (g == 0) low in
    let g0 : (g == 0) ≡ true = second (r == 0) (g == 0) low in
    let b0 : (b == 0) ≡ true = second (r == 0 && g == 0) (b == 0) h in
    let r1 : 0 ≡ r = grind (arith, nat_tests) in
    let g1 : 0 ≡ g = grind (arith, nat_tests) in
    let b1 : 0 ≡ b = grind (arith, nat_tests) in
    λ i. pixel (r1 i) (g1 i) (b1 i) 0

pub record AreBytes (p : Rgba) : Type 0 where
  pub r : is_byte p.r ≡ true
  pub g : is_byte p.g ≡ true
  pub b : is_byte p.b ≡ true
  pub a : is_byte p.a ≡ true

bytes_in : (p : Rgba) → is_pixel p ≡ true → AreBytes p
bytes_in p h =
    let bytes = first ((is_byte p.r && is_byte p.g) && (is_byte p.b && is_byte p.a)) _ h in
    let low = first (is_byte p.r && is_byte p.g) (is_byte p.b && is_byte p.a) bytes in
    let high = second (is_byte p.r && is_byte p.g) (is_byte p.b && is_byte p.a) bytes in
    record {
      r = first (is_byte p.r) (is_byte p.g) low;
      g = second (is_byte p.r) (is_byte p.g) low;
      b = first (is_byte p.b) (is_byte p.a) high;
      a = second (is_byte p.b) (is_byte p.a) high;
    }

-- a pixel with its alpha
pub rgba_back : (p : Rgba) → is_pixel p ≡ true → rgba (rgba_text p) ≡ Ok p
unfolding rgba
rgba_back p h =
    let bytes = bytes_in p h in
    rw (byte_back p.r bytes.r, byte_back p.g bytes.g, byte_back p.b bytes.b, byte_back p.a bytes.a) (ap Ok (canonical_by p.r p.g p.b p.a (second ((is_byte p.r && is_byte p.g) && (is_byte p.b && is_byte p.a)) _ h)))

-- an opaque pixel
pub rgb_back : (p : Rgba) → is_pixel p ≡ true → p.a ≡ 255 → rgb (rgb_text p) ≡ Ok p
unfolding rgb rgba hex_byte
rgb_back p h e =
    let bytes = bytes_in p h in
    rw (byte_back p.r bytes.r, byte_back p.g bytes.g, byte_back p.b bytes.b) (ap (λ a. Ok (pixel p.r p.g p.b a)) (sym e))
