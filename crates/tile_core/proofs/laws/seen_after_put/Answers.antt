use Rattle.tile_core.proofs.TileLaws.{seen_after_put}
use Rattle.tile_core.proofs.laws.seen_after_put.Goals as goal

pub returns : goal.returns
returns c = seen_after_put
