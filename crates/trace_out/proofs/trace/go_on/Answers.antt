use Rattle.std.proofs.Common.{Ok, ap, ◌∙◌, sym, true, false}
use Rattle.trace_out.proofs.trace.go_on.Goals as goal

pub returns-in-Something-clause-on : goal.returns-in-Something-clause-on
returns-in-Something-clause-on g c e = c.take.ensures.something (c.in_ok-take-in-None.was ∙ ap Ok c.in-Something.is)

pub returns-in-Nothing-clause-rests : goal.returns-in-Nothing-clause-rests
returns-in-Nothing-clause-rests g c e = record { free = c.in-None.ensures.none; waits = λ n. (c.take.ensures.nothing (c.in_ok-take-in-None.was ∙ ap Ok c.in-Nothing.is)).0 }

pub returns-in-Nothing-clause-same : goal.returns-in-Nothing-clause-same
returns-in-Nothing-clause-same g c e = (c.take.ensures.nothing (c.in_ok-take-in-None.was ∙ ap Ok c.in-Nothing.is)).1

pub returns-in-Settled-clause-rests : goal.returns-in-Settled-clause-rests
returns-in-Settled-clause-rests g c e = record { free = c.in-None.ensures.none; waits = λ n. absurd (n (c.take.ensures.settled (c.in_ok-take-in-None.was ∙ ap Ok c.in-Settled.is)).0) }

pub returns-in-Settled-clause-same : goal.returns-in-Settled-clause-same
returns-in-Settled-clause-same g c e = (c.take.ensures.settled (c.in_ok-take-in-None.was ∙ ap Ok c.in-Settled.is)).1
