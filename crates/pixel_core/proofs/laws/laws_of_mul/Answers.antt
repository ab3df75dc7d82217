use Rattle.pixel_core.proofs.Rounding.{laws_of_mul}
use Rattle.pixel_core.proofs.laws.laws_of_mul.Goals as goal

pub returns : goal.returns
returns c = laws_of_mul
