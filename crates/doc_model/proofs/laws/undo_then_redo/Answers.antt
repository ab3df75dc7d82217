use Rattle.doc_model.proofs.UndoLaws.{undo_then_redo}
use Rattle.doc_model.proofs.laws.undo_then_redo.Goals as goal

pub returns : goal.returns
returns c = undo_then_redo
