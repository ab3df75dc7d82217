use Rattle.machine_model.proofs.EffectsHold.{end_queues}
use Rattle.machine_model.proofs.effects.end_queues.Goals as goal

pub returns : goal.returns
returns c = end_queues
