use Rattle.std.proofs.Common.{◌≡◌, ◌+◌, ◌-◌, ◌*◌, ◌∙◌, sym, ap, arith, take}
use Rattle.std.specs.List.{flat_map}
use borrow.Rule.Slice.PartMut.{put_mid}
use Rattle.std.proofs.lemmas.List.{take_all}
use Rattle.pixel_core.specs.Words.{bytes_of}
use Rattle.frame_core.specs.Frames.{colours}
use Rattle.frame_core.proofs.LaidColours.{colours_next}
use Rattle.frame_core.proofs.colours.write_colours.Goals as goal

pub loop-i-preserved : goal.loop-i-preserved
loop-i-preserved c =
    ap (λ ys. take (3 * (c.loop-i.i + 1)) (put_mid (3 * c.loop-i.i) (3 * c.loop-i.i + 4 - 3 * c.loop-i.i) c.loop-i.bytes ys)) (c.copy_from_slice.ensures.after ∙ c.bytes.ensures.value ∙ ap bytes_of (sym c.index-pixels-i.is))
    ∙ colours_next c.loop-i.bytes c.args.pixels.now c.loop-i.i (3 * c.loop-i.i + 4 - 3 * c.loop-i.i) c.index-pixels-i.result c.loop-i.invariant (omega (arith, c.loop-i-test.true)) c.index-pixels-i.is (omega (arith, c.loop-i-test.true))

pub returns : goal.returns
returns c =
    let end : 192 ≡ 3 * c.loop-i.i = omega (arith, c.loop-i-test.false, c.loop-i.auto.i-end) in
    ap (λ n. take n c.loop-i.bytes) end ∙ c.loop-i.invariant ∙ ap (flat_map colours) (take_all c.loop-i.i c.args.pixels.now (omega (arith, end)))
