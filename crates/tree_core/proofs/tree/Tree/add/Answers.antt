use Rattle.std.proofs.Common.{◌≡◌, ◌≤◌, None, Ok, List, length, ap, ◌∙◌, sym, subst, arith}
use Rattle.doc_model.specs.Forest.{none, depth}
use Rattle.doc_model.specs.Flat.{node}
use Rattle.doc_model.specs.Changes.{no_new, set_in, new_look, answer}
use Rattle.tree_core.specs.declared.node.Node.{Node}
use Rattle.tree_core.specs.Nodes.{tree_of, content_of, at_place}
use Rattle.tree_core.proofs.Inserted.{new_row, new_kept, room}
use Rattle.tree_core.proofs.tree.Tree.add.Goals as goal

pub insert-requires : goal.insert-requires
insert-requires c =
    let same : tree_of c.as_slice.result.now ≡ c.args.self.now = ap tree_of c.as_slice.ensures.value ∙ c.self.view_is in
    let ok : no_new c.args.id c.args.parent c.args.place c.args.self.now ≡ None = ap (no_new c.args.id c.args.parent c.args.place) (sym same) ∙ c.in_ok-found.ensures.ok in (
      omega arith,
      (
        subst (λ (xs : List Node). c.in_ok-found.found.at ≤ length xs) c.as_slice.ensures.value c.in_ok-found.ensures.within,
        room c.args.id c.args.parent c.args.place c.self.inside.nodes.items c.args.self.now c.self.invariant c.self.view_is ok (subst (λ (xs : List Node). length xs ≤ 256) c.as_slice.ensures.value c.as_slice.ensures.fits),
      ),
    )

pub invariant_of-self : goal.invariant_of-self
invariant_of-self c =
    let same : tree_of c.as_slice.result.now ≡ c.args.self.now = ap tree_of c.as_slice.ensures.value ∙ c.self.view_is in
    let ok : no_new c.args.id c.args.parent c.args.place c.args.self.now ≡ None = ap (no_new c.args.id c.args.parent c.args.place) (sym same) ∙ c.in_ok-found.ensures.ok in
    (new_kept c.args.id c.args.parent c.args.place c.args.paints c.self.inside.nodes.items c.insert.new.self.items c.args.self.now c.in_ok-found.found.at c.new_node.result c.self.invariant c.self.view_is ok
    (c.in_ok-found.ensures.at ∙ ap (at_place c.args.parent c.args.place) c.as_slice.ensures.value) (c.new_node.ensures ∙ ap (λ d. new_row d c.args.id c.args.paints) (c.in_ok-found.ensures.depth ∙ ap (depth c.args.parent) same)) c.insert.ensures.items).0

pub returns-clause-ok : goal.returns-clause-ok
returns-clause-ok c =
    let same : tree_of c.as_slice.result.now ≡ c.args.self.now = ap tree_of c.as_slice.ensures.value ∙ c.self.view_is in
    let ok : no_new c.args.id c.args.parent c.args.place c.args.self.now ≡ None = ap (no_new c.args.id c.args.parent c.args.place) (sym same) ∙ c.in_ok-found.ensures.ok in
    ap (λ o. answer o (set_in c.args.parent c.args.place (node (content_of c.args.paints) c.args.id new_look none none) c.args.self.now)) ok
    ∙ ap Ok (sym (new_kept c.args.id c.args.parent c.args.place c.args.paints c.self.inside.nodes.items c.insert.new.self.items c.args.self.now c.in_ok-found.found.at c.new_node.result c.self.invariant c.self.view_is ok
    (c.in_ok-found.ensures.at ∙ ap (at_place c.args.parent c.args.place) c.as_slice.ensures.value) (c.new_node.ensures ∙ ap (λ d. new_row d c.args.id c.args.paints) (c.in_ok-found.ensures.depth ∙ ap (depth c.args.parent) same)) c.insert.ensures.items).1)
