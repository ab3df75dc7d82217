use Rattle.tile_core.proofs.PartsOf.{fits_across, fits_down, has_pixels_part}
use Rattle.tile_core.proofs.tile.Tile.part.Goals as goal

pub part_of-requires-clause-across : goal.part_of-requires-clause-across
part_of-requires-clause-across c = fits_across c.args.key c.args.rect.now c.part_in_tile.result c.requires.key c.requires.inside c.part_in_tile.ensures

pub part_of-requires-clause-down : goal.part_of-requires-clause-down
part_of-requires-clause-down c = fits_down c.args.key c.args.rect.now c.part_in_tile.result c.requires.key c.requires.inside c.part_in_tile.ensures

pub returns-clause-has : goal.returns-clause-has
returns-clause-has c = has_pixels_part c.args.self.now c.pixels.result.now c.args.key c.args.rect.now c.part_in_tile.result c.in_ok-part_of.field-0.items
    c.requires.key c.requires.inside c.part_in_tile.ensures c.pixels.ensures.value c.in_ok-part_of.ensures.taken
