use Rattle.std.proofs.Common.{◌≡◌, [], take}
use Rattle.entry_queue.specs.Pushed.{StandsFor}
use Rattle.plain_painter.proofs.plain.fed.Given as goal

abbrev pub invariant-loop-command : goal.invariant-loop-command
invariant-loop-command l = StandsFor (take l.command-index l.commands) l.queue × (l.queue.outcomes ≡ [])
