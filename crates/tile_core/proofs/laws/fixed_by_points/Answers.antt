use Rattle.tile_core.proofs.TileLaws.{fixed_by_points}
use Rattle.tile_core.proofs.laws.fixed_by_points.Goals as goal

pub returns : goal.returns
returns c = fixed_by_points
