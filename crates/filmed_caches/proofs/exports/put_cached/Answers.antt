use Rattle.std.proofs.lemmas.Result.{on_ok_weaker}
use Rattle.filmed_caches.proofs.CacheFrames.{tile_put, clear_put}
use Rattle.filmed_caches.proofs.exports.put_cached.Goals as goal

pub returns-in-Some : goal.returns-in-Some
returns-in-Some c = on_ok_weaker c.put.result (tile_put c.args.caches.now c.args.key c.in-Some.tile.now c.args.frame.now c.put.new.self c.in-Some.ensures.some) c.put.ensures.ok

pub returns-in-None : goal.returns-in-None
returns-in-None c = clear_put c.args.caches.now c.args.key c.args.frame.now c.in-None.ensures.none
