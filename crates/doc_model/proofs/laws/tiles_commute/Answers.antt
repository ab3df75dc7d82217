use Rattle.doc_model.proofs.Commuting.{tiles_commute}
use Rattle.doc_model.proofs.laws.tiles_commute.Goals as goal

pub returns : goal.returns
returns c = tiles_commute
