use Rattle.pixel_core.proofs.Rounding.{shifts}
use Rattle.pixel_core.proofs.bytes.rounded_255th.Goals as goal

pub returns : goal.returns
returns c = shifts c.args.n c.requires
