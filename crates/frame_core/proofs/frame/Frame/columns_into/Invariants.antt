use Rattle.frame_core.proofs.FrameRows.{ColumnsSoFar}
use Rattle.frame_core.proofs.frame.Frame.columns_into.Given as goal

-- the points in the tiles so far are written
abbrev pub invariant-loop-col : goal.invariant-loop-col
invariant-loop-col l = ColumnsSoFar l.self l.y l.first l.initial.row l.row l.col
