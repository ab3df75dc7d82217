use Rattle.pixel_core.proofs.ComposeLaws.{opaque_erases}
use Rattle.pixel_core.proofs.laws.opaque_erases.Goals as goal

pub returns : goal.returns
returns c = opaque_erases
