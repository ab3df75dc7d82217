use Rattle.std.proofs.Common.{Ok, sym, ap, subst}
use Rattle.machine_model.specs.Settled.{IsSettled}
use Rattle.desk_state.proofs.SettlingRuns.{stay_closed}
use Rattle.trace_out.specs.declared.scribe.Scribe.{Scribe}
use Rattle.trace_out.proofs.Resting.{rests_settled}
use Rattle.trace_out.proofs.Going.{orderly_by, settles_first, settles_more, settles_still, writing_less}
use Rattle.trace_out.proofs.trace.settle.Goals as goal

pub events-init : goal.events-init
events-init g c = settles_first c.args.scribe.now c.requires.tied

pub go_on-requires : goal.go_on-requires
go_on-requires g c = c.events.invariant.tied

pub returns-then-not-branch-clause-writes : goal.returns-then-not-branch-clause-writes
returns-then-not-branch-clause-writes g c = settles_still c.events.invariant (c.in_ok-go_on.ensures.same (ap Ok c.if-not-branch.true))

pub returns-then-not-branch-clause-settled : goal.returns-then-not-branch-clause-settled
returns-then-not-branch-clause-settled g c = subst (λ (s : Scribe). IsSettled s.desk) (sym (c.in_ok-go_on.ensures.same (ap Ok c.if-not-branch.true)))
    (rests_settled c.events.scribe.desk (orderly_by c.events.invariant.tied) (stay_closed c.events.invariant.puts.settles c.requires.closed) (c.in_ok-go_on.ensures.rests (ap Ok c.if-not-branch.true)))

pub events-preserved : goal.events-preserved
events-preserved g c = settles_more c.events.invariant (c.in_ok-go_on.ensures.on (ap Ok c.if-not-branch.false))

pub events-smaller : goal.events-smaller
events-smaller g c = writing_less c.events.scribe.held c.events.scribe.desk c.events.scribe.out.items c.go_on.new.scribe c.events.invariant.tied (c.in_ok-go_on.ensures.on (ap Ok c.if-not-branch.false))
