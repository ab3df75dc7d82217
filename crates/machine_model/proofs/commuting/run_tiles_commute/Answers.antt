use Rattle.machine_model.proofs.RunsCommute.{run_tiles_commute}
use Rattle.machine_model.proofs.commuting.run_tiles_commute.Goals as goal

pub returns : goal.returns
returns c = run_tiles_commute
