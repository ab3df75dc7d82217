use Rattle.machine_model.proofs.Serials.{serials_fit}
use Rattle.machine_model.proofs.counts.serials_fit.Goals as goal

pub returns : goal.returns
returns c = serials_fit
