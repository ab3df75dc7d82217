use Rattle.group_caches.proofs.Layers.{tile_gone}
use Rattle.group_caches.proofs.painting.remove_tile.Goals as goal

pub returns-then-has : goal.returns-then-has
returns-then-has c = tile_gone c.args.device.now c.remove_tile.new.self c.args.key c.remove_tile.ensures
