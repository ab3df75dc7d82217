use Rattle.machine_model.proofs.Sharing.{only_runs_share}
use Rattle.machine_model.proofs.guards.only_runs_share.Goals as goal

pub returns : goal.returns
returns c = only_runs_share
