use Rattle.std.proofs.Common.{Ok, ap}
use Rattle.trace_out.proofs.Going.{settles_first, settles_more, settles_still, writing_less}
use Rattle.trace_out.proofs.trace.go_on_some.Goals as goal

pub events-init : goal.events-init
events-init g c = settles_first c.args.scribe.now c.requires

pub go_on-requires : goal.go_on-requires
go_on-requires g c = c.events.invariant.tied

pub returns-then-not-branch : goal.returns-then-not-branch
returns-then-not-branch g c = settles_still c.events.invariant (c.in_ok-go_on.ensures.same (ap Ok c.if-not-branch.true))

pub events-preserved : goal.events-preserved
events-preserved g c = settles_more c.events.invariant (c.in_ok-go_on.ensures.on (ap Ok c.if-not-branch.false))

pub events-smaller : goal.events-smaller
events-smaller g c = writing_less c.events.scribe.held c.events.scribe.desk c.events.scribe.out.items c.go_on.new.scribe c.events.invariant.tied (c.in_ok-go_on.ensures.on (ap Ok c.if-not-branch.false))
