use Rattle.std.proofs.Common.{◌==◌, ◌≤◌, length}
use Rattle.script_lines.specs.Lines.{is_blank}
use Rattle.script_lines.specs.Fronts.{pointed}
use Rattle.script_lines.proofs.Pieces.{NonePasses, IsDone}
use Rattle.script_lines.proofs.lines.next_fields.Given as goal

abbrev pub invariant-loop-i : goal.invariant-loop-i
invariant-loop-i l = record {
  start : l.start ≤ l.i;
  end : l.i ≤ length l.bytes;
  blanks : NonePasses is_blank l.bytes l.start l.i;
  feeds : NonePasses (λ b. b == 10) l.bytes 0 l.i;
  done : IsDone l.bytes l.start (pointed l.fields.items);
}
