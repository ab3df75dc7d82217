use Rattle.std.proofs.Common.{arith, ◌+◌, ◌-◌, ◌*◌, min, refl}
use Rattle.frame_core.proofs.Bands.{column_next}
use Rattle.frame_core.proofs.frame.Frame.tile_into.Goals as goal

pub loop-y-preserved : goal.loop-y-preserved
loop-y-preserved c = column_next c.args.self.now c.args.top c.args.band.now c.loop-y.band c.tile_row_into.new.row (64 * c.args.col) (min 64 (c.args.self.now.width - 64 * c.args.col)) c.loop-y.y c.loop-y.at (c.loop-y.at + 3 * c.width.result) c.width.result c.args.n
    c.loop-y.invariant c.width.ensures.value refl (omega arith) (omega (arith, c.loop-y.auto.band, c.requires.whole)) (omega (arith, c.tile_row_into.auto.row)) c.tile_row_into.ensures
