use Rattle.brush_mask.proofs.MaskLaws.{laws_of_the_sides}
use Rattle.brush_mask.proofs.laws.laws_of_the_sides.Goals as goal

pub returns : goal.returns
returns c = laws_of_the_sides
