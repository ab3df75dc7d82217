use Rattle.machine_model.proofs.GuardsHold.{export_waits}
use Rattle.machine_model.proofs.guards.export_waits.Goals as goal

pub returns : goal.returns
returns c = export_waits
