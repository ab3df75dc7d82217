use Rattle.frame_core.proofs.DamagedParts.{none_fit}
use Rattle.frame_core.proofs.damage.Damage.none.Goals as goal

pub invariant_of-result : goal.invariant_of-result
invariant_of-result c = none_fit
