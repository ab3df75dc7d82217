use Rattle.std.proofs.Common.{ap, ◌∙◌}
use Rattle.doc_model.specs.Forest.{is_group}
use Rattle.tree_core.proofs.Finding.{group_with, group_is}
use Rattle.tree_core.proofs.tree.Tree.holds_group.Goals as goal

pub returns : goal.returns
returns c = c.group_in.ensures ∙ ap (group_with c.args.id) c.as_slice.ensures.value ∙ group_is c.args.id c.self.inside.nodes.items c.self.invariant ∙ ap (is_group c.args.id) c.self.view_is
