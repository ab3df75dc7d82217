use Rattle.std.proofs.Common.{◌≡◌, ◌+◌, ◌*◌, ◌++◌, ◌∙◌, ap, arith, length, take, drop, replicate}
use Rattle.std.specs.List.{flat_map}
use Rattle.std.proofs.lemmas.List.{length-take-le}
use Rattle.std.proofs.lemmas.Slice.{take-put_mid}
use Rattle.frame_core.specs.Frames.{colours}
use Rattle.frame_core.proofs.LaidColours.{laid_colours}
use Rattle.frame_core.proofs.colours.lay_colours.Goals as goal

pub returns : goal.returns
returns c =
    let old : length (take (length c.args.pixels.now) (replicate 64 c.args.paper)) ≡ length c.args.pixels.now = length-take-le (length c.args.pixels.now) (replicate 64 c.args.paper) c.requires.few in
    let new : length c.lay_on_paper.new.laid ≡ length c.args.pixels.now = omega (arith, old, c.lay_on_paper.auto.laid) in
    let front : flat_map colours (take (length c.args.pixels.now) (c.lay_on_paper.new.laid ++ drop (length c.args.pixels.now) (replicate 64 c.args.paper))) ≡ flat_map colours c.lay_on_paper.new.laid =
    ap (flat_map colours) (take-put_mid 0 (length c.args.pixels.now) (replicate 64 c.args.paper) c.lay_on_paper.new.laid (length c.args.pixels.now) (omega (arith, new)) (omega arith)) in
    c.put_colours.ensures
    ∙ ap (λ v. take c.args.at c.args.row.now ++ v ++ drop (c.args.at + 3 * length c.args.pixels.now) c.args.row.now)
    (front ∙ laid_colours c.args.paper c.args.pixels.now c.lay_on_paper.new.laid new (λ k t. c.lay_on_paper.ensures k (omega (arith, old, t))))
