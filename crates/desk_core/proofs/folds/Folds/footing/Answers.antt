use Rattle.std.proofs.Common.{refl}
use Rattle.desk_core.proofs.folds.Folds.footing.Goals as goal

pub returns : goal.returns
returns c = record { layer = refl; folds = c.in_ok-folds.ensures }
