use Rattle.std.proofs.Common.{Ok, ap, ◌∙◌}
use Rattle.machine_model.specs.State.{State}
use Rattle.desk_state.proofs.SettlingRuns.{settles_then, canvas_stays, fed_stays, stay_closed, goes_less}
use Rattle.desk_core.proofs.desk.Desk.settle.Goals as goal

pub returns-in_err-go_on-clause-runs : goal.returns-in_err-go_on-clause-runs
returns-in_err-go_on-clause-runs g c = settles_then c.events.invariant.0 c.in_err-go_on.ensures.err

pub returns-in_err-go_on-clause-canvas : goal.returns-in_err-go_on-clause-canvas
returns-in_err-go_on-clause-canvas g c = canvas_stays c.in_err-go_on.ensures.err ∙ canvas_stays c.events.invariant.0

pub returns-in_err-go_on-clause-fed : goal.returns-in_err-go_on-clause-fed
returns-in_err-go_on-clause-fed g c = fed_stays c.in_err-go_on.ensures.err ∙ fed_stays c.events.invariant.0

pub returns-then-not-branch-clause-canvas : goal.returns-then-not-branch-clause-canvas
returns-then-not-branch-clause-canvas g c = ap (λ (s : State). s.canvas) (c.in_ok-go_on.ensures.settled (ap Ok c.if-not-branch.true)).1 ∙ canvas_stays c.events.invariant.0

pub returns-then-not-branch-clause-fed : goal.returns-then-not-branch-clause-fed
returns-then-not-branch-clause-fed g c = ap (λ (s : State). s.fed) (c.in_ok-go_on.ensures.settled (ap Ok c.if-not-branch.true)).1 ∙ fed_stays c.events.invariant.0

pub events-smaller : goal.events-smaller
events-smaller g c = goes_less c.events.self c.go_on.new.self c.go_on.ensures.known (c.in_ok-go_on.ensures.on (ap Ok c.if-not-branch.false))

pub events-preserved : goal.events-preserved
events-preserved g c = (settles_then c.events.invariant.0 (c.in_ok-go_on.ensures.on (ap Ok c.if-not-branch.false)).settles, stay_closed (c.in_ok-go_on.ensures.on (ap Ok c.if-not-branch.false)).settles c.events.invariant.1)
