use Rattle.geom_core.proofs.Canvas.{parts_same}
use Rattle.geom_core.proofs.laws.parts_are_cells.Goals as goal

pub returns : goal.returns
returns c = parts_same
