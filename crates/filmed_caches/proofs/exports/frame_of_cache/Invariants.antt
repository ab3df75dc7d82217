use Rattle.filmed_caches.proofs.CacheFrames.{Drawn}
use Rattle.filmed_caches.proofs.exports.frame_of_cache.Given as goal

-- the frame shows the cache on the tiles so far
abbrev pub invariant-loop-i : goal.invariant-loop-i
invariant-loop-i l = Drawn l.caches l.fn.canvas l.i l.frame
