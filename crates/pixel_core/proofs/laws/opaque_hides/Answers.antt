use Rattle.pixel_core.proofs.ComposeLaws.{opaque_hides}
use Rattle.pixel_core.proofs.laws.opaque_hides.Goals as goal

pub returns : goal.returns
returns c = opaque_hides
