use Rattle.std.proofs.Common.{List, ◌++◌, length}
use Rattle.script_lines.specs.Lines.{lines}
use Rattle.script_lines.specs.Fronts.{lines_behind}
use Rattle.script_forms.specs.Jobs.{Fields}
use Rattle.script_text.specs.Read.{Fits}
use Rattle.script_text.specs.Pieces.{HasRead}
use Rattle.script_text.proofs.Scanning.{Going}
use Rattle.script_text.proofs.pieces.Reader.feed.Given as goal

abbrev pub invariant-loop-left : goal.invariant-loop-left
invariant-loop-left l = record {
  fits : Fits l.reading.canvas;
  going : (ls : List Fields) → HasRead l.fn.self ls → Going (ls ++ lines l.text) l.number l.reading (lines_behind l.left);
}

abbrev pub decreases-loop-left : goal.decreases-loop-left
decreases-loop-left l = length (lines_behind l.left)
