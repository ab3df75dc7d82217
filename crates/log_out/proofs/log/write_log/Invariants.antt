use Rattle.std.proofs.Common.{◌≡◌, ◌+◌, ◌≤◌, length, drop}
use Rattle.doc_model.specs.Strokes.{entries}
use Rattle.log_out.specs.Log.{lines, log_text}
use Rattle.log_out.proofs.Begun.{Begun}
use Rattle.log_out.proofs.Names.{names_in}
use Rattle.log_out.proofs.log.write_log.Given as goal

abbrev pub invariant-loop-i : goal.invariant-loop-i
invariant-loop-i g l = record {
  later : g.K.Sink.faults l.fn.out ≤ g.K.Sink.faults l.out;
  within : l.done ≤ length l.outcomes;
  each : length (drop l.done l.outcomes) ≡ length (names_in (drop l.i l.script.commands));
  begun : Begun (g.K.Sink.taken l.fn.out) (g.K.Sink.taken l.out) (lines (l.done + 1) (names_in (drop l.i l.script.commands)) (drop l.done l.outcomes)) (log_text (entries l.script.commands) l.outcomes);
}
