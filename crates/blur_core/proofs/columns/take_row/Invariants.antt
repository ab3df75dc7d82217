use Rattle.blur_core.specs.Sums.{less}
use Rattle.blur_core.proofs.SoFar.{ChangedSoFar}
use Rattle.blur_core.proofs.columns.take_row.Given as goal

abbrev pub invariant-loop-i : goal.invariant-loop-i
invariant-loop-i l = ChangedSoFar less l.row l.initial.columns l.columns l.i
