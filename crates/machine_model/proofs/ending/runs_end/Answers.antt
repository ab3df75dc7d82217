use Rattle.machine_model.proofs.Spending.{runs_end}
use Rattle.machine_model.proofs.ending.runs_end.Goals as goal

pub returns : goal.returns
returns c = runs_end
