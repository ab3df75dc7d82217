use Rattle.std.proofs.Common.{◌≤◌, ap, ◌∙◌, subst}
use Rattle.doc_model.specs.Forest.{count, height}
use Rattle.doc_model.specs.Ids.{IsTree}
use Rattle.tree_core.specs.Nodes.{Tree}
use Rattle.tree_core.proofs.Kept.{count_is}
use Rattle.tree_core.proofs.tree.Tree.node_count.Goals as goal

pub returns-clause-value : goal.returns-clause-value
returns-clause-value c = c.len.ensures.value ∙ count_is c.self.inside.nodes.items c.self.invariant ∙ ap count c.self.view_is

pub returns-clause-limits : goal.returns-clause-limits
returns-clause-limits c = record {
  tree = subst IsTree c.self.view_is c.self.invariant.once;
  few = subst (λ n. n ≤ 256) (returns-clause-value c) c.len.ensures.fits;
  low = subst (λ (t : Tree). height t ≤ 16) c.self.view_is c.self.invariant.low;
}
