use Rattle.machine_model.proofs.EffectsHold.{cancel_puts_back}
use Rattle.machine_model.proofs.effects.cancel_puts_back.Goals as goal

pub returns : goal.returns
returns c = cancel_puts_back
