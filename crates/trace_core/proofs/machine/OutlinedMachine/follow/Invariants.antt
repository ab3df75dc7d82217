use Rattle.std.proofs.Common.{◌≡◌, ◌+◌, suc, length}
use Rattle.script_lines.specs.Fronts.{lines_behind}
use Rattle.trace_core.specs.Parts.{parts}
use Rattle.trace_core.specs.Following.{follow}
use Rattle.trace_core.proofs.machine.OutlinedMachine.follow.Given as goal

-- so many lines were followed, and the others lead on from here
abbrev pub invariant-loop-left : goal.invariant-loop-left
invariant-loop-left l = record {
  count : l.number + length (lines_behind l.left) ≡ length (lines_behind l.behind) + 2;
  rest : follow 3 (parts l.fn.self) (lines_behind l.behind) ≡ follow (suc l.number) (parts l.self) (lines_behind l.left);
}

abbrev pub decreases-loop-left : goal.decreases-loop-left
decreases-loop-left l = length (lines_behind l.left)
