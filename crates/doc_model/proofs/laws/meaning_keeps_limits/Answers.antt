use Rattle.doc_model.proofs.Limits.{meaning_keeps_limits}
use Rattle.doc_model.proofs.laws.meaning_keeps_limits.Goals as goal

pub returns : goal.returns
returns c = meaning_keeps_limits
