use Rattle.machine_model.proofs.RunsOrderly.{runs_have_meaning}
use Rattle.machine_model.proofs.meaning.runs_have_meaning.Goals as goal

pub returns : goal.returns
returns c = runs_have_meaning
