use Rattle.doc_model.proofs.UndoLaws.{redo_then_undo}
use Rattle.doc_model.proofs.laws.redo_then_undo.Goals as goal

pub returns : goal.returns
returns c = redo_then_undo
