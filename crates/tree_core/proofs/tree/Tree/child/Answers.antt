use Rattle.std.proofs.Common.{◌≡◌, drop, ap, ◌∙◌, sym}
use Rattle.doc_model.specs.Forest.{depth}
use Rattle.doc_model.specs.Changes.{takes}
use Rattle.tree_core.specs.Nodes.{tree_of, start_in}
use Rattle.tree_core.proofs.Passes.{whole_rest}
use Rattle.tree_core.proofs.Kids.{child_now, no_child_is}
use Rattle.tree_core.proofs.tree.Tree.child.Goals as goal

pub returns-in-Some : goal.returns-in-Some
returns-in-Some c =
    let same : tree_of c.as_slice.result.now ≡ c.args.self.now = ap tree_of c.as_slice.ensures.value ∙ c.self.view_is in
    c.child_at.ensures
    ∙ child_now c.args.id c.args.place c.self.inside.nodes.items c.args.self.now c.self.invariant c.self.view_is (sym (c.in-Some.ensures.there ∙ ap (takes c.args.id) same)) c.in-Some.group.depth _ (c.in-Some.ensures.depth ∙ ap (depth c.args.id) same) (whole_rest c.as_slice-in-Some.result.now c.in-Some.group.start ∙ ap (drop c.in-Some.group.start) c.as_slice-in-Some.ensures.value ∙ ap (λ n. drop n c.self.inside.nodes.items) (c.in-Some.ensures.start ∙ ap (start_in c.args.id) c.as_slice.ensures.value))

pub returns-in-None : goal.returns-in-None
returns-in-None c = no_child_is c.args.id c.args.place c.args.self.now (sym (c.in-None.ensures.there ∙ ap (takes c.args.id) (ap tree_of c.as_slice.ensures.value ∙ c.self.view_is)))
