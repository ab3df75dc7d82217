use Rattle.pixel_core.specs.Compose.{mul as product}
use Rattle.pixel_core.proofs.Rounding.{no_ties}
use Rattle.pixel_core.proofs.bytes.mul.Goals as goal

pub returns-clause-value : goal.returns-clause-value
unfolding product
returns-clause-value c = c.rounded_255th.ensures

pub returns-clause-nearest : goal.returns-clause-nearest
returns-clause-nearest c = rw c.rounded_255th.ensures (no_ties _)
