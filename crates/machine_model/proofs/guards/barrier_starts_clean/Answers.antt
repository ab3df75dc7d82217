use Rattle.machine_model.proofs.GuardsHold.{barrier_starts_clean}
use Rattle.machine_model.proofs.guards.barrier_starts_clean.Goals as goal

pub returns : goal.returns
returns c = barrier_starts_clean
