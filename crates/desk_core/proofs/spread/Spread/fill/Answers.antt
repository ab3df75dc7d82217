use Rattle.frame_core.proofs.DamagedPoints.{all_damaged}
use Rattle.desk_core.proofs.spread.Spread.fill.Goals as goal

pub invariant_of-self : goal.invariant_of-self
invariant_of-self c = λ p h. all_damaged c.all.result c.all.ensures p

pub returns-then-not-self : goal.returns-then-not-self
returns-then-not-self c = all_damaged c.all.result c.all.ensures
