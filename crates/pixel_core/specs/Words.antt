-- A pixel's four bytes in a row, and as one number below 2^32, as the code keeps it.
use Rattle.std.specs.Prelude.{ℕ, ◌≡◌, ◌+◌, ◌*◌, ◌/◌, ◌%◌, List, [], ◌∷◌}
use Rattle.std.proofs.Common.{arith, refl}
use Rattle.pixel_core.specs.Rgba.{Rgba, rgba}
use Rattle.std.specs.Coded.{Coded, code_by, coded×, coded_ℕ}

-- red counts ones, green 2^8, blue 2^16 and alpha 2^24
abbrev pub word_of : Rgba → ℕ
word_of p = p.r + 256 * p.g + 65536 * p.b + 16777216 * p.a

-- the pixel of that number
abbrev pub pixel_of : ℕ → Rgba
pixel_of n = rgba (n % 256) (n / 256 % 256) (n / 65536 % 256) (n / 16777216)

-- no byte is lost
pub word_back : (n : ℕ) → word_of (pixel_of n) ≡ n
word_back n = omega arith

-- red, green, blue and alpha in a row
abbrev pub bytes_of : Rgba → List ℕ
bytes_of p = p.r ∷ p.g ∷ p.b ∷ p.a ∷ []

-- the code by which contracts tell pixels apart
abbrev pub pixel_code : Coded Rgba
pixel_code = code_by ((ℕ × ℕ) × (ℕ × ℕ)) (coded× (coded× coded_ℕ coded_ℕ) (coded× coded_ℕ coded_ℕ)) (λ p. ((p.r, p.g), (p.b, p.a))) (λ t. rgba t.0.0 t.0.1 t.1.0 t.1.1) (λ _. refl)
