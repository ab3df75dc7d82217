use Rattle.machine_model.proofs.GivenSteps.{steps_are_next}
use Rattle.machine_model.proofs.steps.steps_are_next.Goals as goal

pub returns : goal.returns
returns c = steps_are_next
