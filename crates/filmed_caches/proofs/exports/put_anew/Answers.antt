use Rattle.filmed_caches.proofs.CacheFrames.{clear_put, shown_put}
use Rattle.filmed_caches.proofs.exports.put_anew.Goals as goal

pub returns-in-None : goal.returns-in-None
returns-in-None c = shown_put c.args.scenery.now.caches.now c.args.scenery.now.canvas c.args.key c.args.frame.now c.args.frame.now (clear_put c.args.scenery.now.caches.now c.args.key c.args.frame.now c.in-None.ensures.none)
