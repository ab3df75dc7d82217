use Rattle.pixel_core.proofs.ComposeLaws.{stays_canonical}
use Rattle.pixel_core.proofs.laws.stays_canonical.Goals as goal

pub returns : goal.returns
returns c = stays_canonical
