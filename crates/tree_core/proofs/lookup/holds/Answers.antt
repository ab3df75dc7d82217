use Rattle.std.proofs.Common.{is_some, ap, ◌∙◌}
use Rattle.tree_core.proofs.Finding.{found_has}
use Rattle.tree_core.proofs.lookup.holds.Goals as goal

pub returns : goal.returns
returns c = c.is_some.ensures ∙ ap is_some c.find.ensures ∙ found_has c.args.id c.args.nodes.now c.requires.kept
