-- How many bytes pixels and rows are.
use Rattle.std.proofs.Common.{◌≡◌, ℕ, ◌+◌, ◌-◌, ◌*◌, ◌≤◌, ◌<◌, true, ◌∙◌, sym, ap, refl, arith}
use Rattle.std.specs.Prelude.{nat_le}
use Rattle.std.proofs.lemmas.Bool.{and_parts, leb-true}
use Rattle.std.proofs.lemmas.Nat.{mul-le}
use Rattle.picture_reading.specs.Formats.{size}
use Rattle.picture_reading.specs.Reading.{has_room, row_bytes}
use Rattle.picture_reading.specs.declared.format.Format.{Format}
use Rattle.picture_reading.specs.declared.format.Format.TheVariants as format
use Rattle.picture_reading.specs.declared.window.Layout.{Layout}

-- a pixel takes some bytes
pub some_bytes : (f : Format) → 1 ≤ size f
some_bytes format.RgbOnPaper = omega arith
some_bytes format.BgrxOnPaper = omega arith
some_bytes format.Rgba = omega arith
some_bytes format.BgraPremultiplied = omega arith

-- so does a row
pub some_row : (l : Layout) (w : ℕ) → 0 < w → 1 ≤ row_bytes l w
some_row l w h = omega (arith, mul-le 1 1 w (size l.format) h (some_bytes l.format))

-- where there is room, a row is no longer than the stride
pub within_stride : (l : Layout) (w h bytes : ℕ) → has_room l w h bytes ≡ true → row_bytes l w ≤ l.stride
within_stride l w h bytes room = leb-true (row_bytes l w) l.stride (and_parts _ _ room).0

-- and each row lies in the buffer
pub row_inside : (l : Layout) (w h bytes row : ℕ) → has_room l w h bytes ≡ true → row < h → row * l.stride + row_bytes l w ≤ bytes
row_inside l w h bytes row room t =
    let last : (h - 1) * l.stride + row_bytes l w ≤ bytes = leb-true ((h - 1) * l.stride + row_bytes l w) bytes (and_parts (nat_le (row_bytes l w) l.stride) _ room).1 in
    let above : row * l.stride ≤ (h - 1) * l.stride = mul-le row l.stride (h - 1) l.stride (omega arith) (omega arith) in
    omega arith
