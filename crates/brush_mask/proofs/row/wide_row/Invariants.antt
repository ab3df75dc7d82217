use Rattle.std.proofs.Common.{◌<◌, ℕ, ◌≡◌, ◌*◌, ◌/◌, get_or, pos}
use Rattle.std.specs.Prelude.{◌+ℤ◌}
use Rattle.brush_mask.specs.Rows.{spare}
use Rattle.brush_mask.proofs.row.wide_row.Given as goal

-- the places so far are written
abbrev pub invariant-loop-i : goal.invariant-loop-i
invariant-loop-i l = (k : ℕ) → k < l.i → get_or l.row k 0 ≡ 255 * spare l.room (l.dx +ℤ pos k) / l.fall.whole
