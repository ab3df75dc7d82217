use Rattle.std.proofs.Common.{◌≤◌, List, length, subst}
use Rattle.tree_core.specs.declared.node.Node.{Node}
use Rattle.tree_core.proofs.Led.{between_leads}
use Rattle.tree_core.proofs.tree.Tree.exchange_for.Goals as goal

pub returns-clause-leads : goal.returns-clause-leads
returns-clause-leads c = between_leads c.between.result c.self.inside.nodes.items c.other.inside.nodes.items c.args.self.now c.args.other.now c.as_slice.result.now c.as_slice-2.result.now c.self.invariant c.self.view_is c.other.invariant c.other.view_is (subst (λ (xs : List Node). length xs ≤ 256) c.as_slice-2.ensures.value c.as_slice-2.ensures.fits) c.as_slice.ensures.value c.as_slice-2.ensures.value c.between.ensures.ok c.between.ensures.fits
