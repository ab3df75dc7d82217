-- Pixel formats: the bytes of a pixel, in memory order.
use Rattle.std.specs.Prelude.{ℕ, List, [], ◌∷◌}
use Rattle.pixel_core.specs.declared.blending.Op.TheVariants.{Over}
use Rattle.pixel_core.specs.Rgba.{Rgba}
use Rattle.pixel_core.specs.Words.{bytes_of}
use Rattle.pixel_core.specs.Compose.{compose, mul, on_paper}
use Rattle.picture_reading.specs.declared.format.Format.{Format}
use Rattle.picture_reading.specs.declared.format.Format.TheVariants as format

-- how many bytes a pixel takes
abbrev pub size : Format → ℕ
size format.RgbOnPaper = 3
size format.BgrxOnPaper = 4
size format.Rgba = 4
size format.BgraPremultiplied = 4

-- blue, green, red, and a byte of ones for the alpha
abbrev pub bgrx_of : Rgba → List ℕ
bgrx_of p = p.b ∷ p.g ∷ p.r ∷ 255 ∷ []

-- blue, green and red, each times alpha / 255 to the nearest whole number, and alpha
abbrev pub premultiplied_of : Rgba → List ℕ
premultiplied_of p = mul p.b p.a ∷ mul p.g p.a ∷ mul p.r p.a ∷ p.a ∷ []

-- the bytes of a pixel, where the canvas has that paper
abbrev pub pixel_bytes : Format → Rgba → Rgba → List ℕ
pixel_bytes format.RgbOnPaper paper p = on_paper p paper
pixel_bytes format.BgrxOnPaper paper p = bgrx_of (compose Over p paper 255)
pixel_bytes format.Rgba paper p = bytes_of p
pixel_bytes format.BgraPremultiplied paper p = premultiplied_of p
