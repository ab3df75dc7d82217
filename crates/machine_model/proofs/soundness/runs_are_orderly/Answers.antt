use Rattle.machine_model.proofs.RunsOrderly.{runs_are_orderly}
use Rattle.machine_model.proofs.soundness.runs_are_orderly.Goals as goal

pub returns : goal.returns
returns c = runs_are_orderly
