use Rattle.machine_model.proofs.Spending.{events_are_spent}
use Rattle.machine_model.proofs.ending.events_are_spent.Goals as goal

pub returns : goal.returns
returns c = events_are_spent
