use Rattle.doc_model.proofs.Queued.{queued_keeps_places}
use Rattle.doc_model.proofs.laws.queued_keeps_places.Goals as goal

pub returns : goal.returns
returns c = queued_keeps_places
