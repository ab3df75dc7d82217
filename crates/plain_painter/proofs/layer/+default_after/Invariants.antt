use Rattle.std.proofs.Common.{length}
use Rattle.plain_painter.proofs.layer.+default_after.Given as goal

abbrev pub decreases-default_after : goal.decreases-default_after
decreases-default_after l = length l.steps.now
