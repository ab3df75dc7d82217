use Rattle.std.proofs.Common.{◌≡◌, ◌≤◌}
use Rattle.filmed_caches.proofs.thrift.share_tiles.Given as goal

-- the plies are the same, and no more of them than so far have a tile of their own
abbrev pub invariant-loop-i : goal.invariant-loop-i
invariant-loop-i l = (l.plies ≡ l.initial.plies) × (l.fresh ≤ l.i)
