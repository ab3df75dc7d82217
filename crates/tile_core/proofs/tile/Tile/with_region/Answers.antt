use Rattle.std.proofs.Common.{◌≡◌}
use Rattle.std.proofs.lemmas.Result.{IfOk-weaker}
use Rattle.tile_core.specs.Blocks.{LaysBlock}
use Rattle.tile_core.proofs.PartsOf.{fits_across, fits_down, lays_block_part}
use Rattle.tile_core.proofs.tile.Tile.with_region.Goals as goal

pub with_part-requires-clause-across : goal.with_part-requires-clause-across
with_part-requires-clause-across c = fits_across c.args.block.now.key c.rect-rect.result c.part_in_tile.result c.rect-rect.ensures.known.key (rw c.rect-rect.ensures.value c.rect-rect.ensures.known.inside) c.part_in_tile.ensures

pub with_part-requires-clause-down : goal.with_part-requires-clause-down
with_part-requires-clause-down c = fits_down c.args.block.now.key c.rect-rect.result c.part_in_tile.result c.rect-rect.ensures.known.key (rw c.rect-rect.ensures.value c.rect-rect.ensures.known.inside) c.part_in_tile.ensures

pub returns : goal.returns
returns c = IfOk-weaker c.from_pixels.result (λ t. t ≡ c.in_ok-pixels.pixels.items) (λ t. LaysBlock c.args.self.now t c.args.block.now)
    (λ t e. rw e (lays_block_part c.args.self.now c.pixels.result.now c.in_ok-pixels.pixels.items c.args.block.now c.rect-rect.result c.part_in_tile.result c.pixels-2.result.now
    c.rect-rect.ensures.known c.rect-rect.ensures.value c.part_in_tile.ensures c.pixels-2.ensures.value c.pixels.ensures.value c.in_ok-pixels.ensures.laid))
    c.from_pixels.ensures
