use Rattle.std.proofs.Common.{ℕ, ◌<◌, get_or}
use Rattle.pixel_core.specs.Rgba.{clear}
use Rattle.blur_core.specs.Sums.{plus, weigh, IsUpTo}
use Rattle.blur_core.proofs.SoFar.{ChangedSoFar}
use Rattle.blur_core.proofs.columns.add_row.Given as goal

abbrev pub invariant-loop-i : goal.invariant-loop-i
invariant-loop-i l = record {
  sums : ChangedSoFar plus l.row l.initial.columns l.columns l.i;
  bytes : (k : ℕ) → k < l.i → IsUpTo 1 (weigh (get_or l.row k clear));
}
