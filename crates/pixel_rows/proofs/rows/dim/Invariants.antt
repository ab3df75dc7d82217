use Rattle.std.proofs.Common.{◌≡◌, ◌≤◌, ℕ, ◌<◌, get_or}
use Rattle.pixel_core.specs.Rgba.{clear}
use Rattle.pixel_rows.specs.Rows.{Dims}
use Rattle.pixel_rows.proofs.rows.dim.Given as goal

-- the sources so far are dimmed
pub record IsDimmed (l : goal.Live-loop-k) : Type 0 where
  pub done : (k : ℕ) → k < l.k → Dims (get_or l.block k clear) (get_or l.initial.block k clear) l.opacity
  pub rest : (k : ℕ) → l.k ≤ k → get_or l.block k clear ≡ get_or l.initial.block k clear

abbrev pub invariant-loop-k : goal.invariant-loop-k
invariant-loop-k l = IsDimmed l
