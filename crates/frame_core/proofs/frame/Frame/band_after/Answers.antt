use Rattle.std.proofs.Common.{◌*◌, ◌<◌, sym, ◌∙◌, arith}
use Rattle.frame_core.proofs.Bands.{band_next, band_all, band_column_stays}
use Rattle.frame_core.proofs.frame.Frame.band_after.Goals.{then-has_at, else-has_at}
use Rattle.frame_core.proofs.frame.Frame.band_after.Goals as goal

pub loop-col-preserved : goal.loop-col-preserved
loop-col-preserved c =
    let inside : 64 * c.loop-col.col < c.args.self.now.width = omega (arith, c.width.ensures.value, c.div_ceil-col-end.ensures) in
    elim c.if-has_at.branch [
      | then-has_at w ↦ rw (w.band-is) (band_next c.args.self.now (64 * c.args.row) c.args.n c.args.band.now c.loop-col.band w.tile_into.new.band c.loop-col.col c.loop-col.invariant inside w.tile_into.ensures)
      | else-has_at w ↦ rw (w.band-is) (band_next c.args.self.now (64 * c.args.row) c.args.n c.args.band.now c.loop-col.band c.loop-col.band c.loop-col.col c.loop-col.invariant inside
          (band_column_stays c.args.self.now c.args.before.now c.args.fresh.now c.args.row c.args.n c.loop-col.col c.args.band.now c.loop-col.band c.loop-col.invariant inside c.requires.after.alike c.requires.after.renews c.requires.few c.requires.inside c.requires.whole c.requires.shown (sym c.has_at.ensures ∙ w.if-has_at.false)))
    ]

pub returns : goal.returns
returns c = band_all c.args.self.now (64 * c.args.row) c.args.n c.args.band.now c.loop-col.band c.loop-col.col c.loop-col.invariant (omega (arith, c.div_ceil-col-end.ensures, c.width.ensures.value)) (omega (arith, c.loop-col.auto.band, c.requires.whole))
