use Rattle.std.proofs.Common.{ap, ◌∙◌, sym}
use Rattle.tree_core.proofs.Passes.{first_with}
use Rattle.tree_core.proofs.Finding.{look_now, look_absent}
use Rattle.tree_core.proofs.tree.Tree.look.Goals as goal

pub returns-in-Some-clause-value : goal.returns-in-Some-clause-value
returns-in-Some-clause-value c = look_now c.args.id c.self.inside.nodes.items c.args.self.now c.self.invariant c.self.view_is _ (ap (first_with c.args.id) (sym c.as_slice.ensures.value) ∙ sym c.find.ensures ∙ c.in-Some.is)

pub returns-in-None-clause-value : goal.returns-in-None-clause-value
returns-in-None-clause-value c = look_now c.args.id c.self.inside.nodes.items c.args.self.now c.self.invariant c.self.view_is _ (ap (first_with c.args.id) (sym c.as_slice.ensures.value) ∙ sym c.find.ensures ∙ c.in-None.is)

pub returns-in-Some-clause-none : goal.returns-in-Some-clause-none
returns-in-Some-clause-none c = look_absent c.args.id c.args.self.now _ (returns-in-Some-clause-value c)

pub returns-in-None-clause-none : goal.returns-in-None-clause-none
returns-in-None-clause-none c = look_absent c.args.id c.args.self.now _ (returns-in-None-clause-value c)
