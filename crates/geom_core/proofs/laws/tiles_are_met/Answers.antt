use Rattle.geom_core.proofs.Axes.{tiles_met}
use Rattle.geom_core.proofs.laws.tiles_are_met.Goals as goal

pub returns : goal.returns
returns c = tiles_met
