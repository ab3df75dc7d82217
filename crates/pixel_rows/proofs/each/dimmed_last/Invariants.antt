use Rattle.std.proofs.Common.{ℕ, ◌<◌, get_or}
use Rattle.pixel_core.specs.Rgba.{clear}
use Rattle.pixel_rows.specs.Rows.{Dims}
use Rattle.pixel_rows.proofs.each.dimmed_last.Given as goal

-- the sources so far are dimmed
abbrev pub invariant-loop-k : goal.invariant-loop-k
invariant-loop-k l = (k : ℕ) → k < l.k → Dims (get_or l.block k clear) (get_or l.src k clear) (get_or l.strength k 0)
