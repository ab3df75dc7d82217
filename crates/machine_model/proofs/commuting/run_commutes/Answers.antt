use Rattle.machine_model.proofs.RunsCommute.{run_commutes}
use Rattle.machine_model.proofs.commuting.run_commutes.Goals as goal

pub returns : goal.returns
returns c = run_commutes
