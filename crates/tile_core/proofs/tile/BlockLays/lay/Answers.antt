use Rattle.std.proofs.Common.{refl}
use Rattle.tile_core.proofs.PartsOf.{fits_across, fits_down, lays_block_part}
use Rattle.tile_core.proofs.tile.BlockLays.lay.Goals as goal

pub lay_part-requires-clause-across : goal.lay_part-requires-clause-across
lay_part-requires-clause-across c = fits_across c.args.self.now.key c.rect-rect.result c.part_in_tile.result c.rect-rect.ensures.known.key (rw c.rect-rect.ensures.value c.rect-rect.ensures.known.inside) c.part_in_tile.ensures

pub lay_part-requires-clause-down : goal.lay_part-requires-clause-down
lay_part-requires-clause-down c = fits_down c.args.self.now.key c.rect-rect.result c.part_in_tile.result c.rect-rect.ensures.known.key (rw c.rect-rect.ensures.value c.rect-rect.ensures.known.inside) c.part_in_tile.ensures

pub returns : goal.returns
returns c = lays_block_part c.args.tile.now c.args.tile.now c.lay_part.new.tile c.args.self.now c.rect-rect.result c.part_in_tile.result c.pixels.result.now
    c.rect-rect.ensures.known c.rect-rect.ensures.value c.part_in_tile.ensures c.pixels.ensures.value refl c.lay_part.ensures
