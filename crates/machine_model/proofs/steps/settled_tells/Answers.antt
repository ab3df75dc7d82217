use Rattle.machine_model.proofs.Turns.{settled_tells}
use Rattle.machine_model.proofs.steps.settled_tells.Goals as goal

pub returns : goal.returns
returns c = settled_tells
