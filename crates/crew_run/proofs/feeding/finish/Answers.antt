use Rattle.std.proofs.Common.{arith}
use Rattle.crew_run.proofs.Fronts.{all_fed_closed}
use Rattle.crew_run.proofs.feeding.finish.Goals as goal

pub settle-requires : goal.settle-requires
settle-requires g c = all_fed_closed c.args.script.now c.loop-i.desk.fed c.loop-i.i c.commands-lawful.ensures.script c.loop-i.invariant.1 (omega arith)
