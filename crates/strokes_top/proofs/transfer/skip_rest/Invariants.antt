use Rattle.std.proofs.Common.{◌≤◌, ◌-◌}
use Rattle.strokes_top.proofs.Transfers.{IsCounted}
use Rattle.strokes_top.proofs.transfer.skip_rest.Given as goal

abbrev pub invariant-loop-n : goal.invariant-loop-n
invariant-loop-n g l = record {
  later : g.S.Source.faults l.fn.source ≤ g.S.Source.faults l.source;
  few : l.count ≤ 1048576;
  counted : IsCounted l.fn.count (g.S.Source.left l.fn.source) (g.S.Source.left l.source) l.count;
}

abbrev pub decreases-loop-n : goal.decreases-loop-n
decreases-loop-n g l = 1048576 - l.count
