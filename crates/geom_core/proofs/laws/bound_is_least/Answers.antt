use Rattle.geom_core.proofs.Bounds.{least_bound}
use Rattle.geom_core.proofs.laws.bound_is_least.Goals as goal

pub returns : goal.returns
returns c = least_bound
