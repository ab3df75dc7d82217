use Rattle.std.proofs.Common.{◌≡◌}
use Rattle.crew_run.specs.Front.{IsFront}
use Rattle.crew_run.specs.Watched.{KeepsRoot}
use Rattle.crew_run.proofs.feeding.feed_ahead.Given as goal

-- a front was fed to the desk of that canvas, and the root's cache stayed
abbrev pub invariant-loop : goal.invariant-loop
invariant-loop g l = (IsFront l.desk.fed l.script.commands) × (l.desk.canvas ≡ l.initial.desk.canvas) × KeepsRoot l.initial.desk l.desk
