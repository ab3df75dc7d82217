use Rattle.doc_model.proofs.Commuting.{jobs_commute}
use Rattle.doc_model.proofs.laws.jobs_commute.Goals as goal

pub returns : goal.returns
returns c = jobs_commute
