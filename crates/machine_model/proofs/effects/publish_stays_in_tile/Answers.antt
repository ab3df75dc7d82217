use Rattle.machine_model.proofs.EffectsHold.{publish_stays_in_tile}
use Rattle.machine_model.proofs.effects.publish_stays_in_tile.Goals as goal

pub returns : goal.returns
returns c = publish_stays_in_tile
