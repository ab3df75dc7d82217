use Rattle.doc_model.proofs.DoneLaws.{undo_gives_back}
use Rattle.doc_model.proofs.laws.undo_gives_back.Goals as goal

pub returns : goal.returns
returns c = undo_gives_back
