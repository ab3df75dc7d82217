use Rattle.machine_model.proofs.RootPicture.{covered_reaches_root}
use Rattle.machine_model.proofs.pictures.covered_reaches_root.Goals as goal

pub returns : goal.returns
returns c = covered_reaches_root
