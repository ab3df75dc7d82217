use Rattle.doc_model.proofs.DoneLaws.{refused_leaves_nothing}
use Rattle.doc_model.proofs.laws.refused_leaves_nothing.Goals as goal

pub returns : goal.returns
returns c = refused_leaves_nothing
