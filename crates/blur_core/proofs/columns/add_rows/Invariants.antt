use Rattle.blur_core.proofs.SoFar.{AddedSoFar}
use Rattle.blur_core.proofs.columns.add_rows.Given as goal

abbrev pub invariant-loop-row : goal.invariant-loop-row
invariant-loop-row l = AddedSoFar l.pixels l.width l._row l.from l.columns
