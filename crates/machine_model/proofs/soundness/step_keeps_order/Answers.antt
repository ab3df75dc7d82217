use Rattle.machine_model.proofs.RunsOrderly.{step_keeps}
use Rattle.machine_model.proofs.soundness.step_keeps_order.Goals as goal

pub returns : goal.returns
returns c = step_keeps
