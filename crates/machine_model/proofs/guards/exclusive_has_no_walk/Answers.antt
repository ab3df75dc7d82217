use Rattle.machine_model.proofs.GuardsHold.{exclusive_has_no_walk}
use Rattle.machine_model.proofs.guards.exclusive_has_no_walk.Goals as goal

pub returns : goal.returns
returns c = exclusive_has_no_walk
