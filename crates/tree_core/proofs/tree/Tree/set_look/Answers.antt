use Rattle.std.proofs.Common.{◌≡◌, List, ap, ◌∙◌, sym, subst, map, is_some, length, Ok}
use Rattle.std.specs.List.{refill}
use Rattle.doc_model.specs.Forest.{has, with_look}
use Rattle.doc_model.specs.Ids.{IsTree}
use Rattle.tree_core.specs.declared.node.Node.{Node}
use Rattle.tree_core.specs.Nodes.{node_with_look, tree_of, IsKept}
use Rattle.tree_core.proofs.Choices.{ok_answer, err_answer, there_test, ok_here, ok_there, err_here, err_there, same_here, same_there}
use Rattle.tree_core.proofs.Passes.{first_with}
use Rattle.tree_core.proofs.Finding.{found_has}
use Rattle.tree_core.proofs.Looks.{kept_relook, tree_relook, look_filled, look_lost}
use Rattle.tree_core.proofs.tree.Tree.set_look.Goals as goal
use Rattle.tree_core.proofs.tree.Tree.set_look.Goals.{then-set_look, else-set_look}

pub invariant_of-self : goal.invariant_of-self
invariant_of-self c = subst IsKept (sym (look_filled c.args.id c.args.look c.self.inside.nodes.items c.set_look.new.nodes (c.set_look.ensures.set ∙ ap (map (node_with_look c.args.id c.args.look)) c.as_mut_slice.ensures.value))) (kept_relook c.args.id c.args.look c.self.inside.nodes.items c.self.invariant)

pub returns-clause-ok : goal.returns-clause-ok
returns-clause-ok c =
    let new : tree_of (refill (length c.self.inside.nodes.items) c.self.inside.nodes.items c.set_look.new.nodes) ≡ with_look c.args.id c.args.look c.args.self.now =
    ap tree_of (look_filled c.args.id c.args.look c.self.inside.nodes.items c.set_look.new.nodes (c.set_look.ensures.set ∙ ap (map (node_with_look c.args.id c.args.look)) c.as_mut_slice.ensures.value))
    ∙ tree_relook c.args.id c.args.look c.self.inside.nodes.items c.self.invariant ∙ ap (with_look c.args.id c.args.look) c.self.view_is in
    let there : c.set_look.result ≡ has c.args.id c.args.self.now = c.set_look.ensures.there ∙ ap (λ (xs : List Node). is_some (first_with c.args.id xs)) c.as_mut_slice.ensures.value ∙ found_has c.args.id c.self.inside.nodes.items c.self.invariant ∙ ap (has c.args.id) c.self.view_is in
    elim c.if-set_look.branch [
      | then-set_look w ↦ ok_here c.if-set_look.result _ _ w.result-is (ok_answer c.args.id c.args.self.now (with_look c.args.id c.args.look c.args.self.now) (there_test c.args.id c.args.self.now (subst IsTree c.self.view_is c.self.invariant.once) (sym there ∙ w.if-set_look.true)) ∙ ap Ok (sym new))
      | else-set_look w ↦ ok_there c.if-set_look.result _ _ w.result-is
    ]

pub returns-clause-err : goal.returns-clause-err
returns-clause-err c =
    let there : c.set_look.result ≡ has c.args.id c.args.self.now = c.set_look.ensures.there ∙ ap (λ (xs : List Node). is_some (first_with c.args.id xs)) c.as_mut_slice.ensures.value ∙ found_has c.args.id c.self.inside.nodes.items c.self.invariant ∙ ap (has c.args.id) c.self.view_is in
    elim c.if-set_look.branch [
      | then-set_look w ↦ err_there c.if-set_look.result _ _ w.result-is
      | else-set_look w ↦ err_here c.if-set_look.result _ _ w.result-is (err_answer c.args.id c.args.self.now (with_look c.args.id c.args.look c.args.self.now) (sym there ∙ w.if-set_look.false))
    ]

pub returns-clause-same : goal.returns-clause-same
returns-clause-same c =
    let new : tree_of (refill (length c.self.inside.nodes.items) c.self.inside.nodes.items c.set_look.new.nodes) ≡ with_look c.args.id c.args.look c.args.self.now =
    ap tree_of (look_filled c.args.id c.args.look c.self.inside.nodes.items c.set_look.new.nodes (c.set_look.ensures.set ∙ ap (map (node_with_look c.args.id c.args.look)) c.as_mut_slice.ensures.value))
    ∙ tree_relook c.args.id c.args.look c.self.inside.nodes.items c.self.invariant ∙ ap (with_look c.args.id c.args.look) c.self.view_is in
    let there : c.set_look.result ≡ has c.args.id c.args.self.now = c.set_look.ensures.there ∙ ap (λ (xs : List Node). is_some (first_with c.args.id xs)) c.as_mut_slice.ensures.value ∙ found_has c.args.id c.self.inside.nodes.items c.self.invariant ∙ ap (has c.args.id) c.self.view_is in
    elim c.if-set_look.branch [
      | then-set_look w ↦ same_there c.if-set_look.result _ _ w.result-is
      | else-set_look w ↦ same_here c.if-set_look.result _ _ w.result-is (new ∙ look_lost c.args.id c.args.look c.args.self.now (sym there ∙ w.if-set_look.false))
    ]
