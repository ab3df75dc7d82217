use Rattle.std.proofs.Common.{take}
use Rattle.geom_core.specs.Rects.{any_holds}
use Rattle.slot_work.specs.Round.{Widens}
use Rattle.slot_work.proofs.round.widen_by_all.Given as goal

-- the rectangles so far were taken in
abbrev pub invariant-loop-i : goal.invariant-loop-i
invariant-loop-i l = Widens l.bounds (any_holds (take l.i l.rects)) l.fn.so_far l.round
