use Rattle.doc_model.proofs.DoneLaws.{one_outcome_an_entry}
use Rattle.doc_model.proofs.laws.one_outcome_an_entry.Goals as goal

pub returns : goal.returns
returns c = one_outcome_an_entry
