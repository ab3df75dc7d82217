use Rattle.machine_model.proofs.BarrierAlone.{barrier_stays_clean}
use Rattle.machine_model.proofs.guards.barrier_stays_clean.Goals as goal

pub returns : goal.returns
returns c = barrier_stays_clean
