use Rattle.machine_model.proofs.Turns.{turns_are_steps}
use Rattle.machine_model.proofs.steps.turns_are_steps.Goals as goal

pub returns : goal.returns
returns c = turns_are_steps
