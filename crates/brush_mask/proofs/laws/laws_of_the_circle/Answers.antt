use Rattle.brush_mask.proofs.MaskLaws.{laws_of_the_circle}
use Rattle.brush_mask.proofs.laws.laws_of_the_circle.Goals as goal

pub returns : goal.returns
returns c = laws_of_the_circle
