use Rattle.doc_model.proofs.Queued.{queued_covers}
use Rattle.doc_model.proofs.laws.queued_covers.Goals as goal

pub returns : goal.returns
returns c = queued_covers
