use Rattle.machine_model.proofs.PublishOrder.{publishes_commute}
use Rattle.machine_model.proofs.commuting.publishes_commute.Goals as goal

pub returns : goal.returns
returns c = publishes_commute
