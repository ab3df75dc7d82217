use Rattle.machine_model.proofs.ExportedFrames.{caches_are_folds}
use Rattle.machine_model.proofs.pictures.caches_are_folds.Goals as goal

pub returns : goal.returns
returns c = caches_are_folds
