use Rattle.std.proofs.Common.{arith}
use Rattle.frame_core.proofs.FrameRows.{columns_next}
use Rattle.frame_core.proofs.frame.Frame.columns_into.Goals as goal

pub loop-col-preserved : goal.loop-col-preserved
loop-col-preserved c = columns_next c.args.self.now c.args.y c.args.first c.loop-col.col c.args.row.now c.loop-col.row c.tile_row_into.new.row (omega arith) (omega arith) (omega arith) c.loop-col.invariant c.tile_row_into.ensures
