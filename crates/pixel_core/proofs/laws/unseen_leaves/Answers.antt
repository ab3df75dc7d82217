use Rattle.pixel_core.proofs.ComposeLaws.{unseen_leaves}
use Rattle.pixel_core.proofs.laws.unseen_leaves.Goals as goal

pub returns : goal.returns
returns c = unseen_leaves
