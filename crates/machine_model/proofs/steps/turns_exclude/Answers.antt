use Rattle.machine_model.proofs.Turns.{turns_exclude}
use Rattle.machine_model.proofs.steps.turns_exclude.Goals as goal

pub returns : goal.returns
returns c = turns_exclude
