use Rattle.std.proofs.Common.{◌≡◌, ℕ, ◌<◌, get_or}
use Rattle.pixel_core.specs.Rgba.{clear}
use Rattle.pixel_rows.proofs.rows.fill.Given as goal

-- the places so far are written
abbrev pub invariant-loop-i : goal.invariant-loop-i
invariant-loop-i l = (k : ℕ) → k < l.i → get_or l.backdrop k clear ≡ l.left
