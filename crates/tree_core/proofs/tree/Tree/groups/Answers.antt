use Rattle.std.proofs.Common.{◌∙◌, ap}
use Rattle.doc_model.specs.Readers.{order}
use Rattle.tree_core.specs.Nodes.{tree_of}
use Rattle.tree_core.proofs.tree.Tree.groups.Goals as goal

pub returns-clause-order : goal.returns-clause-order
returns-clause-order c = c.groups_of.ensures.order ∙ ap order (ap tree_of c.as_slice.ensures.value ∙ c.self.view_is)
