use Rattle.machine_model.proofs.GoesOn.{no_dead_end}
use Rattle.machine_model.proofs.meaning.no_dead_end.Goals as goal

pub returns : goal.returns
returns c = no_dead_end
