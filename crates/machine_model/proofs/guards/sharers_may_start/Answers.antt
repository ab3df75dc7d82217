use Rattle.machine_model.proofs.Sharing.{sharers_may_start}
use Rattle.machine_model.proofs.guards.sharers_may_start.Goals as goal

pub returns : goal.returns
returns c = sharers_may_start
