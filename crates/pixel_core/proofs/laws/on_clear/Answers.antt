use Rattle.pixel_core.proofs.ComposeLaws.{on_clear}
use Rattle.pixel_core.proofs.laws.on_clear.Goals as goal

pub returns : goal.returns
returns c = on_clear
