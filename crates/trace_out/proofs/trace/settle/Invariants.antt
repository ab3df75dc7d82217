use Rattle.machine_model.specs.Remaining.{left}
use Rattle.trace_out.specs.Goes.{SettlesWriting}
use Rattle.trace_out.proofs.trace.settle.Given as goal

-- the events so far are written
abbrev pub invariant-events : goal.invariant-events
invariant-events g l = SettlesWriting l.initial.scribe.desk l.initial.scribe.out.items l.scribe

-- each turn leaves fewer events
abbrev pub decreases-events : goal.decreases-events
decreases-events g l = left l.scribe.desk
