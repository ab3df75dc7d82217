use Rattle.std.proofs.Common.{◌≡◌, length}
use Rattle.plain_painter.specs.Tellings.{HasCome}
use Rattle.plain_painter.proofs.plain.plain_frames.Given as goal

abbrev pub invariant-loop-entry : goal.invariant-loop-entry
invariant-loop-entry l = HasCome l.script.commands l.telling l.queue × (l.telling.canvas ≡ l.script.canvas)

abbrev pub decreases-loop-entry : goal.decreases-loop-entry
decreases-loop-entry l = length l.queue.left
