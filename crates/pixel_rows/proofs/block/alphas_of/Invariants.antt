use Rattle.std.proofs.Common.{◌<◌, ◌≤◌, ◌/◌, ◌%◌, ◌-◌, ℕ, get_or}
use Rattle.pixel_core.specs.Rgba.{clear}
use Rattle.pixel_core.specs.Canonical.{IsCanonical}
use Rattle.pixel_rows.proofs.block.alphas_of.Given as goal

-- the bits that the alphas so far have are gathered above, and those that they lack below
pub record IsGathered (l : goal.Live-loop-i) : Type 0 where
  pub canonical : (k : ℕ) → k < l.i → IsCanonical (get_or l.pixels k clear)
  pub had : (k : ℕ) → k < l.i → (get_or l.pixels k clear).a ≤ l.any / 256 % 256
  pub lacked : (k : ℕ) → k < l.i → 255 - (get_or l.pixels k clear).a ≤ l.any % 256

abbrev pub invariant-loop-i : goal.invariant-loop-i
invariant-loop-i l = IsGathered l
