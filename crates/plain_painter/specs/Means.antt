-- Sums over pixels, of which a mean is made.
use Rattle.std.specs.Prelude.{ℕ, ◌*◌, ◌≤◌, List, map, sum}
use Rattle.pixel_core.specs.Rgba.{Rgba}
use Rattle.doc_model.specs.Jobs.{weighed}
use Rattle.plain_painter.specs.declared.mean.Sums.{Sums}

-- the sum of the alphas, and of each colour by its alpha
abbrev pub sums_of : List Rgba → Sums
sums_of pixels = record {
  alpha = sum (map (λ (q : Rgba). q.a) pixels);
  red = weighed (λ q. q.r) pixels;
  green = weighed (λ q. q.g) pixels;
  blue = weighed (λ q. q.b) pixels;
}

-- no more than n pixels can have: their bytes are at most 255
pub record IsUpTo (n : ℕ) (s : Sums) : Type 0 where
  pub alpha : s.alpha ≤ 255 * n
  pub red : s.red ≤ 255 * s.alpha
  pub green : s.green ≤ 255 * s.alpha
  pub blue : s.blue ≤ 255 * s.alpha
