use Rattle.std.proofs.Common.{◌≡◌, ◌≤◌, ◌-◌, true, List, length, Ok, ap, ◌∙◌, sym, subst}
use Rattle.std.specs.Prelude.{slice_range}
use Rattle.std.specs.List.{remove_range}
use Rattle.doc_model.specs.Forest.{has, depth, only, without}
use Rattle.doc_model.specs.Flat.{flat}
use Rattle.doc_model.specs.Ids.{IsTree}
use Rattle.tree_core.specs.declared.node.Node.{Node}
use Rattle.tree_core.specs.Nodes.{Tree, rows_of, tree_of}
use Rattle.tree_core.proofs.Choices.{ok_answer, err_answer, there_test}
use Rattle.tree_core.proofs.Refused.{part_absent, part_there}
use Rattle.tree_core.proofs.tree.Tree.remove.Goals as goal

pub returns-clause-ok : goal.returns-clause-ok
returns-clause-ok c =
    let rows : rows_of (slice_range c.self.inside.nodes.items c.span-branch.result.start c.span-branch.result.end) ≡ flat (depth c.args.id (tree_of c.self.inside.nodes.items) - 1) (only c.args.id (tree_of c.self.inside.nodes.items)) =
    subst (λ (xs : List Node). rows_of (slice_range xs c.span-branch.result.start c.span-branch.result.end) ≡ flat (depth c.args.id (tree_of xs) - 1) (only c.args.id (tree_of xs))) c.as_slice.ensures.value c.span-branch.ensures.branch in
    let low : c.span-branch.result.end ≤ length c.self.inside.nodes.items = subst (λ (xs : List Node). c.span-branch.result.end ≤ length xs) c.as_slice.ensures.value c.span-branch.ensures.within in
    let there : has c.args.id c.args.self.now ≡ true = ap (has c.args.id) (sym c.self.view_is) ∙ part_there c.args.id c.self.inside.nodes.items c.span-branch.result.start c.span-branch.result.end c.span-branch.ensures.order low rows c.if-branch.false in
    let left : tree_of (remove_range c.self.inside.nodes.items c.span-branch.result.start c.span-branch.result.end) ≡ without c.args.id (tree_of c.self.inside.nodes.items) =
    subst (λ (xs : List Node). tree_of (remove_range xs c.span-branch.result.start c.span-branch.result.end) ≡ without c.args.id (tree_of xs)) c.as_slice.ensures.value c.span-branch.ensures.left in
    ok_answer c.args.id c.args.self.now (without c.args.id c.args.self.now) (there_test c.args.id c.args.self.now (subst IsTree c.self.view_is c.self.invariant.once) there)
    ∙ ap Ok (sym (ap tree_of c.take_out.ensures ∙ left ∙ ap (λ (t : Tree). without c.args.id t) c.self.view_is))

pub returns-then-branch-clause-err : goal.returns-then-branch-clause-err
returns-then-branch-clause-err c =
    let rows : rows_of (slice_range c.self.inside.nodes.items c.span-branch.result.start c.span-branch.result.end) ≡ flat (depth c.args.id (tree_of c.self.inside.nodes.items) - 1) (only c.args.id (tree_of c.self.inside.nodes.items)) =
    subst (λ (xs : List Node). rows_of (slice_range xs c.span-branch.result.start c.span-branch.result.end) ≡ flat (depth c.args.id (tree_of xs) - 1) (only c.args.id (tree_of xs))) c.as_slice.ensures.value c.span-branch.ensures.branch in
    let low : c.span-branch.result.end ≤ length c.self.inside.nodes.items = subst (λ (xs : List Node). c.span-branch.result.end ≤ length xs) c.as_slice.ensures.value c.span-branch.ensures.within in
    err_answer c.args.id c.args.self.now (without c.args.id c.args.self.now) (ap (has c.args.id) (sym c.self.view_is) ∙ part_absent c.args.id c.self.inside.nodes.items c.span-branch.result.start c.span-branch.result.end c.span-branch.ensures.order low rows c.if-branch.true)
