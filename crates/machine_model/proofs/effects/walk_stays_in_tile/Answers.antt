use Rattle.machine_model.proofs.EffectsHold.{walk_stays_in_tile}
use Rattle.machine_model.proofs.effects.walk_stays_in_tile.Goals as goal

pub returns : goal.returns
returns c = walk_stays_in_tile
