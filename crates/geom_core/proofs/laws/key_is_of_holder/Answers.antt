use Rattle.geom_core.proofs.Tiles.{holder}
use Rattle.geom_core.proofs.laws.key_is_of_holder.Goals as goal

pub returns : goal.returns
returns c = holder
