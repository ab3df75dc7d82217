use Rattle.frame_core.proofs.FrameLaws.{shown_after_put}
use Rattle.frame_core.proofs.laws.shown_after_put.Goals as goal

pub returns : goal.returns
returns c = shown_after_put
