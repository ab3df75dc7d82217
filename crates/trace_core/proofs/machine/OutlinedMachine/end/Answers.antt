use Rattle.std.proofs.Common.{Ok}
use Rattle.trace_core.specs.Parts.{parts}
use Rattle.trace_core.proofs.Events.{yes_follows, no_follows, end_of_job, end_of_walk}
use Rattle.trace_core.proofs.machine.OutlinedMachine.end.Goals as goal

pub returns-then-end_job : goal.returns-then-end_job
returns-then-end_job c = end_of_job _ _ c.args.place (yes_follows _ _ _ _ c.end_job.ensures c.if-end_job.true)

pub returns : goal.returns
returns c = end_of_walk _ (parts c.end_job.new.self) _ c.args.place (Ok c.end_walk.result) (no_follows _ _ _ _ c.end_job.ensures c.if-end_job.false) c.end_walk.ensures
