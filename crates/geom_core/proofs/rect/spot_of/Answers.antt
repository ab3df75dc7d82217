use Rattle.std.proofs.Common.{sym}
use Rattle.std.proofs.Math.Nat.{mod-eq_of_lt, div-eq_of_lt}
use Rattle.geom_core.proofs.rect.spot_of.Goals as goal

pub returns-then-i-n-clause-col : goal.returns-then-i-n-clause-col
returns-then-i-n-clause-col c = sym (mod-eq_of_lt c.if-i-n.true)

pub returns-then-i-n-clause-row : goal.returns-then-i-n-clause-row
returns-then-i-n-clause-row c = sym (div-eq_of_lt c.if-i-n.true)
