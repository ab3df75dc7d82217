use Rattle.tile_core.proofs.LaidKeys.{lays_key_as, tile_fits, in_span, rows_fit}
use Rattle.tile_core.proofs.shot.lay_common.Goals as goal

pub lay_tile_rows-requires-clause-down : goal.lay_tile_rows-requires-clause-down
lay_tile_rows-requires-clause-down c = rw (c.requires.all, c.w-width.ensures.value, c.h.ensures.value)
    (rows_fit c.top.result c.top-top.result c.args.part.now.h c.args.rect.now.h c.args.rect.now.w (in_span c.args.rect.now.y c.args.part.now.y c.top.result c.top-top.result c.args.part.now.h c.args.rect.now.h c.top.ensures.value c.top-top.ensures.value c.requires.shared.in_a.top c.requires.shared.in_a.bottom))

pub lay_tile_rows-requires-clause-tile_across : goal.lay_tile_rows-requires-clause-tile_across
lay_tile_rows-requires-clause-tile_across c = tile_fits c.args.key.col c.args.part.now.x c.left-left.result c.args.part.now.w c.w.result c.requires.key.left c.left-left.ensures.value c.requires.shared.in_b.left c.requires.shared.in_b.right c.w.ensures.value c.w.ensures.some

pub lay_tile_rows-requires-clause-tile_down : goal.lay_tile_rows-requires-clause-tile_down
lay_tile_rows-requires-clause-tile_down c = tile_fits c.args.key.row c.args.part.now.y c.top-top.result c.args.part.now.h c.h.result c.requires.key.top c.top-top.ensures.value c.requires.shared.in_b.top c.requires.shared.in_b.bottom c.h.ensures.value c.h.ensures.some

pub returns : goal.returns
returns c = lays_key_as c.args.pixels.now c.lay_tile_rows.new.pixels c.args.rect.now c.args.part.now c.args.key c.args.tile.now c.pixels.result.now c.left.result c.top.result c.left-left.result c.top-top.result c.w-width.result c.w.result c.h.result
    c.left.ensures.value c.top.ensures.value c.left-left.ensures.value c.top-top.ensures.value c.requires.key c.requires.shared c.w-width.ensures.value c.w.ensures.value c.h.ensures.value c.pixels.ensures.value c.lay_tile_rows.ensures
