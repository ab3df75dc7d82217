use Rattle.std.proofs.Common.{ap, ◌∙◌}
use Rattle.doc_model.specs.Readers.{parent}
use Rattle.tree_core.specs.Nodes.{tree_of}
use Rattle.tree_core.proofs.Parents.{parent_absent_only}
use Rattle.tree_core.proofs.tree.Tree.parent.Goals as goal

pub returns-clause-value : goal.returns-clause-value
returns-clause-value c = c.above.ensures ∙ ap (parent c.args.id 0) (ap tree_of c.as_slice.ensures.value ∙ c.self.view_is)

pub returns-clause-none : goal.returns-clause-none
returns-clause-none c = parent_absent_only c.args.id c.args.self.now _ (returns-clause-value c)
