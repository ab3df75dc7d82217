use Rattle.std.proofs.Common.{◌≡◌}
use Rattle.filmed_caches.proofs.CacheFrames.{Drawn}
use Rattle.live_run.proofs.frames.live_frame.Given as goal

-- the frame shows the cache on the tiles so far
abbrev pub invariant-loop-i : goal.invariant-loop-i
invariant-loop-i g l = record { drawn : Drawn l.desk.caches l.desk.canvas l.i l.frame; kept : l.live ≡ l.initial.live }
