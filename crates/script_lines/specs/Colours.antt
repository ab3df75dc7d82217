-- Colours, digit by digit.
use Rattle.std.specs.Prelude.{ℕ, nat_lt, nat_le, ◌==◌, Bool, true, ◌&&◌, Result, Ok, Err, if◌then◌else◌}
use Rattle.std.specs.Char.{digit_value}
use Rattle.pixel_core.specs.Rgba.{Rgba, if_canonical}
use Rattle.script_lines.specs.declared.cause.Cause.{Cause}
use Rattle.script_lines.specs.declared.cause.Cause.TheVariants.{Number}
use Rattle.script_lines.specs.Values.{◌>>=◌}

abbrev pub is_byte : ℕ → Bool
is_byte n = nat_le n 255

-- whether the numbers are those of a pixel: bytes, all 0 where the alpha is 0
abbrev pub is_pixel : Rgba → Bool
is_pixel p = ((is_byte p.r && is_byte p.g) && (is_byte p.b && is_byte p.a)) && (if p.a == 0 then (p.r == 0 && p.g == 0) && p.b == 0 else true)

-- the value of a hexadecimal digit, or 256 where it is none
abbrev pub digit_or_more : ℕ → ℕ
digit_or_more b = if nat_lt (digit_value b) 16 then digit_value b else 256

-- a number that stands for one below a limit, or else for none
abbrev pub below : ℕ → ℕ → Result ℕ Cause
below limit n = if nat_lt n limit then Ok n else Err Number

-- the pixel of four bytes, where each was read
abbrev pub pixel_by : Result ℕ Cause → Result ℕ Cause → Result ℕ Cause → Result ℕ Cause → Result Rgba Cause
pixel_by told_red told_green told_blue told_alpha = do
  red ← told_red
  green ← told_green
  blue ← told_blue
  alpha ← told_alpha
  Ok (if_canonical red green blue alpha)
