use Rattle.std.proofs.Common.{◌+◌, ◌≤◌, drop, map}
use Rattle.log_out.specs.Summary.{sheet_of}
use Rattle.log_out.specs.Log.{frame_lines, sum_text}
use Rattle.log_out.proofs.Begun.{Begun}
use Rattle.log_out.proofs.summary.write_sum.Given as goal

abbrev pub invariant-loop-i : goal.invariant-loop-i
invariant-loop-i g l = record {
  later : g.K.Sink.faults l.fn.out ≤ g.K.Sink.faults l.out;
  begun : Begun (g.K.Sink.taken l.fn.out) (g.K.Sink.taken l.out) (frame_lines (l.i + 1) (map sheet_of (drop l.i l.frames))) (sum_text (map sheet_of l.frames) l.outcomes);
}
