use Rattle.frame_core.proofs.FrameLaws.{paper_where_nothing}
use Rattle.frame_core.proofs.laws.paper_where_nothing.Goals as goal

pub returns : goal.returns
returns c = paper_where_nothing
