use Rattle.doc_model.proofs.Limits.{changes_keep_limits}
use Rattle.doc_model.proofs.laws.changes_keep_limits.Goals as goal

pub returns : goal.returns
returns c = changes_keep_limits
