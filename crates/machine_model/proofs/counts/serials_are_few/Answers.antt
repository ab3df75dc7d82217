use Rattle.machine_model.proofs.Serials.{serials_are_few}
use Rattle.machine_model.proofs.counts.serials_are_few.Goals as goal

pub returns : goal.returns
returns c = serials_are_few
