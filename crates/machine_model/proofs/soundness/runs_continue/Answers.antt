use Rattle.machine_model.proofs.Continuing.{runs_continue}
use Rattle.machine_model.proofs.soundness.runs_continue.Goals as goal

pub returns : goal.returns
returns c = runs_continue
