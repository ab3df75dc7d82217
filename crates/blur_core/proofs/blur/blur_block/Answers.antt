use Rattle.std.proofs.Common.{ap, sym, refl, subst, List}
use Rattle.pixel_core.specs.Rgba.{Rgba}
use Rattle.geom_core.specs.Areas.{Area}
use Rattle.tile_core.specs.Pixels.{HasPixels}
use Rattle.tile_core.specs.Blocks.{Piece}
use Rattle.tile_core.specs.Shots.{sight_at}
use Rattle.doc_model.specs.Jobs.{grown}
use Rattle.blur_core.proofs.Squares.{means_blur}
use Rattle.blur_core.proofs.blur.blur_block.Goals as goal

pub returns-clause-pixels : goal.returns-clause-pixels
returns-clause-pixels c =
    let read : HasPixels (grown c.args.part.now c.args.r) (sight_at c.args.shot.now) c.in_ok-pixels.pixels.items = subst (λ (a : Area). HasPixels a (sight_at c.args.shot.now) c.in_ok-pixels.pixels.items) c.grown.ensures c.in_ok-pixels.ensures.has in
    let same : HasPixels (grown c.args.part.now c.args.r) (sight_at c.args.shot.now) c.deref.result.now = subst (λ (ps : List Rgba). HasPixels (grown c.args.part.now c.args.r) (sight_at c.args.shot.now) ps) (sym c.deref.ensures.value) read in
    means_blur c.args.shot.now c.args.part.now c.args.r c.w-w.result c.h-h.result _ c.deref.result.now c.in_ok-means.means.items c.from_pixels.result same c.w-w.ensures.value c.h-h.ensures.value refl c.in_ok-means.ensures.means (ap (λ (b : Piece). b.rect) c.from_pixels.ensures) (ap (λ (b : Piece). b.pixels) c.from_pixels.ensures)
