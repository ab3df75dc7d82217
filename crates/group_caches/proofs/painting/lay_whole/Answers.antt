use Rattle.std.proofs.Common.{subst}
use Rattle.group_caches.specs.Laying.{StandsFor}
use Rattle.group_caches.proofs.Layers.{tile_laid, readied_has}
use Rattle.group_caches.proofs.painting.lay_whole.Goals as goal

pub set_tile-requires : goal.set_tile-requires
set_tile-requires c = readied_has c.args.device.now c.ready.new.self c.args.key c.in_ok-ready-in-Some.ensures.ok

pub returns-in_ok-ready-in-Some-clause-ok : goal.returns-in_ok-ready-in-Some-clause-ok
returns-in_ok-ready-in-Some-clause-ok c = tile_laid c.args.device.now c.ready.new.self c.set_tile.new.self c.args.key c.in-Some.tile c.args.given.now c.in_ok-ready-in-Some.ensures.ok c.set_tile.ensures (subst (StandsFor c.args.given.now) c.in-Some.is c.in_ok-tile.ensures)
