-- What fields spell, numbers and colours, or the causes for which they spell none.
use Rattle.std.specs.Prelude.{ℕ, Bool, List, ◌+◌, codes, ◌&&◌, ◌*◌, Result, nat_le, nat_lt, Ok, ◌==◌, Err, [], ◌∷◌, ◌++◌, length, ℤ, pos, neg_ℤ, nat_abs, int_le, if◌then◌else◌}
use Rattle.script_lines.specs.declared.cause.Cause.{Cause}
use Rattle.script_lines.specs.declared.cause.Cause.TheVariants.{UnknownWord, FieldCount, Number, Range, TooManyDabs, OutOfWorld, UnknownStroke, ClosedStroke, UsedAgain, CanvasMissing, CanvasAgain, TooManyJobs, TooManyExports, StrokeLeft}
use Rattle.std.specs.Char.{digit_value, is_ascii_digit}
use Rattle.std.specs.List.{list_all}
use Rattle.std.specs.Str.Parse.{digits_value}
use Rattle.pixel_core.specs.Rgba.{Rgba, if_canonical}

-- what is told of a cause
abbrev pub text : Cause → List ℕ
text UnknownWord = codes "unknown word"
text FieldCount = codes "wrong number of fields"
text Number = codes "bad number"
text Range = codes "out of range"
text TooManyDabs = codes "too many dabs"
text OutOfWorld = codes "out of world"
text UnknownStroke = codes "unknown stroke"
text ClosedStroke = codes "closed stroke"
text UsedAgain = codes "stroke number used again"
text CanvasMissing = codes "canvas missing"
text CanvasAgain = codes "canvas repeated"
text TooManyJobs = codes "too many jobs"
text TooManyExports = codes "too many exports"
text StrokeLeft = codes "stroke left open"

-- a step after another: the first that fails gives the cause
infixl 10 ◌>>=◌
abbrev pub ◌>>=◌ : {A B : Type 0} → Result A Cause → (A → Result B Cause) → Result B Cause
(Ok x) >>= f = f x
(Err c) >>= f = Err c

-- whether the bytes are one to ten digits
abbrev pub is_magnitude : List ℕ → Bool
is_magnitude bytes = (nat_le 1 (length bytes) && nat_le (length bytes) 10) && list_all is_ascii_digit bytes

-- the number that one to ten digits spell
unfoldable pub magnitude : List ℕ → Result ℕ Cause
magnitude bytes = if is_magnitude bytes then Ok (digits_value 10 bytes) else Err Number

-- the number that digits spell, a minus sign before them where it is below 0
unfoldable pub number : List ℕ → Result ℤ Cause
number [] = Err Number
number (b ∷ bytes) = if b == 45 then (magnitude bytes >>= λ n. Ok (neg_ℤ (pos n))) else (magnitude (b ∷ bytes) >>= λ n. Ok (pos n))

-- a number of a range
unfoldable pub number_in : ℤ → ℤ → List ℕ → Result ℤ Cause
number_in low high bytes = number bytes >>= λ n. if int_le low n && int_le n high then Ok n else Err Range

-- a number of a range from 0 on
unfoldable pub natural : ℕ → ℕ → List ℕ → Result ℕ Cause
natural low high bytes = number_in (pos low) (pos high) bytes >>= λ n. Ok (nat_abs n)

-- the value of a hexadecimal digit, of either case
abbrev pub hex_digit : ℕ → Result ℕ Cause
hex_digit b = if nat_lt (digit_value b) 16 then Ok (digit_value b) else Err Number

-- the byte that two hexadecimal digits spell
unfoldable pub hex_byte : ℕ → ℕ → Result ℕ Cause
hex_byte high low = hex_digit high >>= λ x. hex_digit low >>= λ y. Ok (16 * x + y)

-- eight hexadecimal digits: a pixel, clear where the alpha is 0
unfoldable pub rgba : List ℕ → Result Rgba Cause
rgba (a ∷ b ∷ c ∷ d ∷ e ∷ f ∷ g ∷ h ∷ []) = do
  red ← hex_byte a b
  green ← hex_byte c d
  blue ← hex_byte e f
  alpha ← hex_byte g h
  Ok (if_canonical red green blue alpha)
rgba _ = Err Number

-- six hexadecimal digits: an opaque pixel
unfoldable pub rgb : List ℕ → Result Rgba Cause
rgb bytes = rgba (bytes ++ codes "ff")
