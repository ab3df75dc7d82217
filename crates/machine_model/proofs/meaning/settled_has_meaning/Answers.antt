use Rattle.machine_model.proofs.RunsOrderly.{settled_has_meaning}
use Rattle.machine_model.proofs.meaning.settled_has_meaning.Goals as goal

pub returns : goal.returns
returns c = settled_has_meaning
