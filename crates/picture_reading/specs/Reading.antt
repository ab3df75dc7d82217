-- Reading a rectangle of a picture into a buffer.
use Rattle.std.specs.Prelude.{◌≡◌, ℕ, ◌+◌, ◌-◌, ◌*◌, ◌/◌, ◌%◌, ℤ, pos, ◌+ℤ◌, int_le, nat_lt, nat_le, nat_abs, Bool, ◌&&◌, if◌then◌else◌, Result, Ok, Err, List, slice_index}
use Rattle.picture_reading.specs.Formats.{pixel_bytes, size}
use Rattle.picture_reading.specs.Pictures.{Shown}
use Rattle.picture_reading.specs.declared.window.Window.{Window}
use Rattle.picture_reading.specs.declared.window.Layout.{Layout}
use Rattle.picture_reading.specs.declared.window.Unreadable.{Unreadable}
use Rattle.picture_reading.specs.declared.window.Unreadable.TheVariants.{OutOfBounds, BufferTooSmall}

-- whether n numbers from a on are some of those below `side`, at least one
abbrev pub is_span : ℤ → ℕ → ℕ → Bool
is_span a n side = nat_lt 0 n && (int_le (pos 0) a && int_le (a +ℤ pos n) (pos side))

-- whether the rectangle has pixels, all of them on the canvas
abbrev pub is_on : Window → ℕ → ℕ → Bool
is_on r width height = is_span r.x r.w width && is_span r.y r.h height

-- how many bytes a row of the rectangle is
abbrev pub row_bytes : Layout → ℕ → ℕ
row_bytes l w = w * size l.format

-- whether that many bytes have room for h rows of w pixels
abbrev pub has_room : Layout → ℕ → ℕ → ℕ → Bool
has_room l w h bytes = nat_le (row_bytes l w) l.stride && nat_le ((h - 1) * l.stride + row_bytes l w) bytes

-- what reading says: the first refusal that fits
abbrev pub verdict : Window → Layout → Shown → ℕ → Result (Unit {0}) Unreadable
verdict r l s bytes =
    if is_on r s.width s.height
    then (if has_room l r.w r.h bytes then Ok tt else Err BufferTooSmall)
    else Err OutOfBounds

-- whether the byte at a place is one of a pixel: the place i lies in the row i / stride of the buffer, i % stride behind its first byte
abbrev pub is_written : Layout → ℕ → ℕ → ℕ → Bool
is_written l w h i = nat_lt (i / l.stride) h && nat_lt (i % l.stride) (row_bytes l w)

-- that byte, of a rectangle with the corner (x, y)
abbrev pub byte_at : Shown → Layout → ℕ → ℕ → ℕ → ℕ
byte_at s l x y i = slice_index (pixel_bytes l.format s.paper (s.pixel (x + i % l.stride / size l.format) (y + i / l.stride))) (i % l.stride % size l.format)

-- each byte of the buffer is that of its pixel, or as it was where it is none of a pixel
abbrev pub HasRead : Shown → Layout → ℕ → ℕ → ℕ → ℕ → List ℕ → List ℕ → Type 0
HasRead s l x y w h old new = (i : ℕ) → slice_index new i ≡ (if is_written l w h i then byte_at s l x y i else slice_index old i)
