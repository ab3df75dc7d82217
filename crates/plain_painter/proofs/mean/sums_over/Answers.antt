use Rattle.std.proofs.Common.{◌≡◌, ◌∙◌, sym, ap, take, Some, length, refl}
use Rattle.std.specs.Prelude.{slice_get}
use Rattle.std.proofs.lemmas.Option.{slice_get_read}
use Rattle.plain_painter.specs.Means.{sums_of}
use Rattle.plain_painter.proofs.Fronts.{item_more}
use Rattle.plain_painter.proofs.mean.sums_over.Goals as goal

pub loop-pixel-preserved : goal.loop-pixel-preserved
loop-pixel-preserved c =
    let at : slice_get c.args.pixels.now c.loop-pixel.pixel-index ≡ Some c.pixel-item.result = slice_get_read c.args.pixels.now (length c.args.pixels.now) c.loop-pixel.pixel-index c.pixel-item.result refl c.loop-pixel-test.true c.pixel-item.is in (
      c.with_pixel-sums.ensures.value (take c.loop-pixel.pixel-index c.args.pixels.now) c.loop-pixel.invariant.0 ∙ ap sums_of (sym (item_more c.args.pixels.now c.loop-pixel.pixel-index c.pixel-item.result at)),
      c.with_pixel-sums.ensures.small c.loop-pixel.pixel-index c.loop-pixel.invariant.1,
    )
