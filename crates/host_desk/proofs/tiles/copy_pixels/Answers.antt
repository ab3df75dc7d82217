use Rattle.std.proofs.Common.{◌+◌, ◌-◌, ◌*◌, ◌∙◌, ap, arith, take}
use borrow.Rule.Slice.PartMut.{put_mid}
use Rattle.host_desk.proofs.CopiedPixels.{pixels_next, pixels_all}
use Rattle.host_desk.proofs.tiles.copy_pixels.Goals as goal

pub loop-i-preserved : goal.loop-i-preserved
loop-i-preserved c =
    ap (λ ys. take (4 * (c.loop-i.i + 1)) (put_mid (4 * c.loop-i.i) (4 * c.loop-i.i + 4 - 4 * c.loop-i.i) c.loop-i.out ys)) (c.copy_from_slice.ensures.after ∙ c.bytes.ensures.value)
    ∙ pixels_next c.loop-i.out c.args.pixels.now c.loop-i.i (4 * c.loop-i.i + 4 - 4 * c.loop-i.i) c.index-pixels-i.result c.loop-i.invariant (omega (arith, c.loop-i-test.true)) c.index-pixels-i.is (omega (arith, c.loop-i-test.true))

pub returns : goal.returns
returns c = pixels_all c.loop-i.out c.args.pixels.now c.loop-i.i c.loop-i.invariant (omega (arith, c.loop-i-test.false)) (omega arith)
