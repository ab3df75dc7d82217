use Rattle.blur_core.proofs.SoFar.{MeansSoFar}
use Rattle.blur_core.proofs.columns.moved_down.Given as goal

abbrev pub invariant-loop-row : goal.invariant-loop-row
invariant-loop-row l = MeansSoFar l.pixels l.w l.more l._row l.next l.first l.columns l.means.items
