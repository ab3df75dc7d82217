use Rattle.whole_tiles.specs.Plans.{is_apart}
use Rattle.whole_tiles.proofs.Tiles.{next_tile}
use Rattle.whole_tiles.proofs.painting.add_tiles.Goals as goal

pub loop-i-preserved : goal.loop-i-preserved
loop-i-preserved c = next_tile (is_apart c.args.before.now) c.args.keys.now.items c.loop-i.keys.items c.add_tile.new.keys.items c.args.rect.now c.loop-i.i c.tile_at.result c.tile_at.ensures.value c.loop-i.invariant c.in_ok-add_tile.ensures
