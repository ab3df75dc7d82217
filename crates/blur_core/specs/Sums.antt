-- Sums over pixels: of their alphas, and of each colour by its alpha.
use Rattle.std.specs.Prelude.{ℕ, suc, zero, ◌+◌, ◌-◌, ◌*◌, ◌≤◌, ◌==◌, if◌then◌else◌}
use Rattle.pixel_core.specs.Rgba.{Rgba, rgba, clear}
use Rattle.pixel_core.specs.Compose.{nearest}
use Rattle.blur_core.specs.declared.sums.Sums.{Sums}

-- the sums of alphas and of red, green and blue
abbrev pub sums : ℕ → ℕ → ℕ → ℕ → Sums
sums a r g b = record { alpha = a; red = r; green = g; blue = b }

-- the sums of no pixels
abbrev pub nothing : Sums
nothing = sums 0 0 0 0

-- what a pixel adds
abbrev pub weigh : Rgba → Sums
weigh p = sums p.a (p.a * p.r) (p.a * p.g) (p.a * p.b)

-- the sums of both
abbrev pub plus : Sums → Sums → Sums
plus s t = sums (s.alpha + t.alpha) (s.red + t.red) (s.green + t.green) (s.blue + t.blue)

-- the first sums without the second
abbrev pub less : Sums → Sums → Sums
less s t = sums (s.alpha - t.alpha) (s.red - t.red) (s.green - t.green) (s.blue - t.blue)

-- none of the first sums is above that of the second
pub record IsPartOf (s t : Sums) : Type 0 where
  pub alpha : s.alpha ≤ t.alpha
  pub red : s.red ≤ t.red
  pub green : s.green ≤ t.green
  pub blue : s.blue ≤ t.blue

-- no more than n pixels can have: their bytes are at most 255
pub record IsUpTo (n : ℕ) (s : Sums) : Type 0 where
  pub alpha : s.alpha ≤ 255 * n
  pub red : s.red ≤ 255 * s.alpha
  pub green : s.green ≤ 255 * s.alpha
  pub blue : s.blue ≤ 255 * s.alpha

-- f a + f (a + 1) + .., n of them
unfoldable pub sum_from : (ℕ → Sums) → ℕ → ℕ → Sums
sum_from f a zero = nothing
sum_from f a (suc n) = plus (sum_from f a n) (f (a + n))

-- the mean of n pixels with these sums
abbrev pub mean_of : ℕ → Sums → Rgba
mean_of n s =
    let alpha = nearest s.alpha n in
    if alpha == 0 then clear else rgba (nearest s.red s.alpha) (nearest s.green s.alpha) (nearest s.blue s.alpha) alpha
