use Rattle.std.proofs.Common.{◌≡◌, ◌*◌, ◌≤◌}
use Rattle.std.specs.List.{sum}
use Rattle.ppm_out.proofs.Lines.{lines}
use Rattle.log_out.proofs.summary.colour_sum.Given as goal

abbrev pub invariant-loop-y : goal.invariant-loop-y
invariant-loop-y l = record {
  so_far : l.total ≡ sum (lines l.frame 0 l.y);
  bound : l.total ≤ 1566720 * l.y;
}
