use Rattle.std.proofs.Common.{arith}
use Rattle.desk_events.proofs.Barriers.{widened_more, widened_all}
use Rattle.desk_events.proofs.small_jobs.widen_jobs.Goals as goal

pub loop-entry-preserved : goal.loop-entry-preserved
loop-entry-preserved c = widened_more c.args.jobs.now c.loop-entry.entry-index c.args.group c.entry-item.result c.loop-entry.updates c.widen_all.new.updates _ (omega arith) c.entry-item.is c.widen_all.ensures c.loop-entry.invariant

pub returns : goal.returns
returns c = widened_all c.args.jobs.now c.loop-entry.entry-index c.args.group c.loop-entry.updates _ (omega arith) c.loop-entry.invariant
