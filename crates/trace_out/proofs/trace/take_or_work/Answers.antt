use Rattle.std.proofs.Common.{Ok, sym, ap, ◌∙◌, subst}
use Rattle.trace_out.proofs.trace.take_or_work.Goals as goal

pub returns-in-Something : goal.returns-in-Something
returns-in-Something g c = c.take.ensures.something (c.in_ok-take.was ∙ ap Ok c.in-Something.is)
