use Rattle.machine_model.proofs.Waiting.{groups_wait}
use Rattle.machine_model.proofs.updates.groups_wait.Goals as goal

pub returns : goal.returns
returns c = groups_wait
