use Rattle.std.proofs.Common.{◌≡◌, drop}
use Rattle.update_queue.specs.Waiting.{widened_by_all}
use Rattle.update_queue.proofs.widening.widen_all.Given as goal

-- with the rectangles that are left all wait
abbrev pub invariant-loop-rect : goal.invariant-loop-rect
invariant-loop-rect l = widened_by_all l.updates l.group (drop l.rect-index l.rects) ≡ widened_by_all l.initial.updates l.group l.rects
