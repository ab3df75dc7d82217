use Rattle.std.proofs.Common.{◌≡◌, ◌++◌, take}
use Rattle.std.specs.List.{flat_map}
use Rattle.script_text.specs.Text.{canvas_line, command_text}
use Rattle.script_text.proofs.printing.print.Given as goal

abbrev pub invariant-loop-i : goal.invariant-loop-i
invariant-loop-i l = l.out.items ≡ canvas_line l.script.canvas ++ flat_map command_text (take l.i l.commands)
