use Rattle.std.proofs.Common.{◌≡◌, drop}
use Rattle.doc_model.specs.Strokes.{entries}
use Rattle.script_text.specs.Reading.{left_open}
use Rattle.script_text.proofs.reading.Reading.left_open.Given as goal

abbrev pub invariant-loop-i : goal.invariant-loop-i
invariant-loop-i l = left_open (entries l.self.draft) (drop l.i l.self.starts.items) ≡ left_open (entries l.self.draft) l.self.starts.items
