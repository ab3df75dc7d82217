use Rattle.std.proofs.Common.{ap, subst}
use Rattle.walker_core.specs.Composing.{Composition, AreRows}
use Rattle.walker_core.proofs.composed.Composed.into_rows.Goals as goal

pub returns-clause-tiles : goal.returns-clause-tiles
returns-clause-tiles c = ap (λ (d : Composition). d.keys) c.self.view_is

pub returns-clause-of : goal.returns-clause-of
returns-clause-of c = subst (λ (d : Composition). AreRows d.readings c.self.inside.rows.items) c.self.view_is c.self.invariant
