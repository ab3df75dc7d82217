use Rattle.std.proofs.Common.{Ok, ap, subst, sym}
use Rattle.small_host.specs.Host.{IsAtRest}
use Rattle.desk_state.proofs.SettlingRuns.{settles_then, goes_less}
use Rattle.small_host.proofs.work_all.Goals as goal

pub turns-smaller : goal.turns-smaller
turns-smaller g c = goes_less c.turns.desk c.work.new.desk c.work.ensures.known (c.in_ok-work.ensures.on (ap Ok c.if-not-branch.false))

pub turns-preserved : goal.turns-preserved
turns-preserved g c = settles_then c.turns.invariant c.work.ensures.runs

pub returns-in_err-work-clause-runs : goal.returns-in_err-work-clause-runs
returns-in_err-work-clause-runs g c = settles_then c.turns.invariant c.work.ensures.runs

pub returns-then-not-branch-clause-runs : goal.returns-then-not-branch-clause-runs
returns-then-not-branch-clause-runs g c = settles_then c.turns.invariant c.work.ensures.runs

pub returns-then-not-branch-clause-rest : goal.returns-then-not-branch-clause-rest
returns-then-not-branch-clause-rest g c = subst IsAtRest (sym (c.in_ok-work.ensures.rest (ap Ok c.if-not-branch.true)).1) (c.in_ok-work.ensures.rest (ap Ok c.if-not-branch.true)).0
