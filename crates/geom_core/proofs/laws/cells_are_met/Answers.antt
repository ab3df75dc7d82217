use Rattle.geom_core.proofs.Whole.{parted_by_cells}
use Rattle.geom_core.proofs.laws.cells_are_met.Goals as goal

pub returns : goal.returns
returns c = parted_by_cells
