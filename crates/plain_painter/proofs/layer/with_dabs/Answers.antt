use Rattle.std.proofs.Common.{◌≡◌, ◌∙◌, to_z, of_z, w32, arith}
use borrow.Author.Differences.{ints}
use Rattle.geom_core.specs.Areas.{lies_in, point, world}
use Rattle.doc_model.specs.Jobs.{square}
use Rattle.brush_path.proofs.Squares.{get_square, passes_at}
use Rattle.plain_painter.specs.Steps.{point_of}
use Rattle.plain_painter.proofs.Dabbed.{dab_laid, all_laid}
use Rattle.plain_painter.proofs.layer.with_dabs.Goals as goal

pub with_dab-pixel-requires-clause-inside : goal.with_dab-pixel-requires-clause-inside
with_dab-pixel-requires-clause-inside c =
    let x : to_z w32 (of_z w32 c.track_dab-x.result.0) ≡ c.track_dab-x.result.0 = omega (arith, ints) in
    let y : to_z w32 (of_z w32 c.track_dab-x.result.1) ≡ c.track_dab-x.result.1 = omega (arith, ints) in
    (λ i. lies_in (square (x i) (y i) (c.stamp-stamp.ensures.value i).r) world)
    ∙ passes_at (λ a. lies_in a world) _ c.loop-i.i _ c.requires (get_square c.args.track.now c.loop-i.i c.track_dab-x.result.0 c.track_dab-x.result.1 c.track_dab-x.ensures)

pub loop-i-preserved : goal.loop-i-preserved
loop-i-preserved c =
    let x : to_z w32 (of_z w32 c.track_dab-x.result.0) ≡ c.track_dab-x.result.0 = omega (arith, ints) in
    let y : to_z w32 (of_z w32 c.track_dab-x.result.1) ≡ c.track_dab-x.result.1 = omega (arith, ints) in
    dab_laid c.args.track.now c.loop-i.i c.stamp-stamp.result (point c.track_dab-x.result.0 c.track_dab-x.result.1) _ (point_of c.args.spot) c.loop-i.pixel c.with_dab-pixel.result
    c.track_dab-x.ensures c.stamp-stamp.ensures.value (λ i. point (x i) (y i)) c.with_dab-pixel.ensures ∙ c.loop-i.invariant

pub returns : goal.returns
returns c = all_laid c.args.track.now c.loop-i.i (point_of c.args.spot) c.loop-i.pixel c.track_len-i-end.result c.track_len-i-end.ensures c.loop-i-test.false ∙ c.loop-i.invariant
