use Rattle.machine_model.proofs.EffectsHold.{jobs_start_in_order}
use Rattle.machine_model.proofs.effects.jobs_start_in_order.Goals as goal

pub returns : goal.returns
returns c = jobs_start_in_order
