use Rattle.machine_model.proofs.Sharing.{walks_never_meet}
use Rattle.machine_model.proofs.guards.walks_never_meet.Goals as goal

pub returns : goal.returns
returns c = walks_never_meet
