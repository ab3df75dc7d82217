use Rattle.std.proofs.Common.{arith}
use Rattle.frame_core.proofs.Bands.{band_next, band_all}
use Rattle.frame_core.proofs.frame.Frame.rows_into.Goals as goal

pub loop-col-preserved : goal.loop-col-preserved
loop-col-preserved c = band_next c.args.self.now c.args.top c.args.n c.args.band.now c.loop-col.band c.tile_into.new.band c.loop-col.col c.loop-col.invariant (omega (arith, c.div_ceil-col-end.ensures, c.width.ensures.value)) c.tile_into.ensures

pub returns : goal.returns
returns c = band_all c.args.self.now c.args.top c.args.n c.args.band.now c.loop-col.band c.loop-col.col c.loop-col.invariant (omega (arith, c.div_ceil-col-end.ensures, c.width.ensures.value)) (omega (arith, c.loop-col.auto.band, c.requires.whole))
