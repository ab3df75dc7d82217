use Rattle.std.proofs.Common.{◌≤◌, ◌-◌}
use Rattle.strokes_top.proofs.Takings.{IsTaking}
use Rattle.strokes_top.proofs.source.read_script.Given as goal

abbrev pub invariant-loop-intake : goal.invariant-loop-intake
invariant-loop-intake g l = record {
  later : g.S.Source.faults l.fn.source ≤ g.S.Source.faults l.source;
  few : l.count ≤ 1048576;
  taking : IsTaking (g.S.Source.left l.fn.source) (g.S.Source.left l.source) l.intake l.count;
}

abbrev pub decreases-loop-intake : goal.decreases-loop-intake
decreases-loop-intake g l = 1048576 - l.count
