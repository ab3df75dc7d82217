use Rattle.std.proofs.Common.{take}
use Rattle.script_text.specs.Read.{IsGathered}
use Rattle.script_text.proofs.making.gather.Given as goal

abbrev pub invariant-loop-i : goal.invariant-loop-i
invariant-loop-i l = IsGathered l.reading l.fn.canvas (take l.i l.commands)
