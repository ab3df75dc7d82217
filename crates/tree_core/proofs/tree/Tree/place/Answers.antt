use Rattle.std.proofs.Common.{◌≡◌, None, Ok, List, length, ap, ◌∙◌, sym, subst}
use Rattle.std.specs.List.{refill}
use Rattle.doc_model.specs.Forest.{only, without}
use Rattle.doc_model.specs.Flat.{flat}
use Rattle.doc_model.specs.Changes.{no_place, set_in, answer}
use Rattle.tree_core.specs.declared.node.Node.{Node}
use Rattle.tree_core.specs.Nodes.{Tree, rows_of, tree_of, moved_along, IsKept}
use Rattle.tree_core.proofs.Kept.{tree_from}
use Rattle.tree_core.proofs.Looks.{filled}
use Rattle.tree_core.proofs.Placed.{placed_kept}
use Rattle.tree_core.proofs.tree.Tree.place.Goals as goal

pub invariant_of-self : goal.invariant_of-self
invariant_of-self c =
    let moved : rows_of (moved_along c.in_ok-route.route c.self.inside.nodes.items) ≡ flat 0 (set_in c.args.parent c.args.place (only c.args.id (tree_of c.self.inside.nodes.items)) (without c.args.id (tree_of c.self.inside.nodes.items))) =
    subst (λ (xs : List Node). rows_of (moved_along c.in_ok-route.route xs) ≡ flat 0 (set_in c.args.parent c.args.place (only c.args.id (tree_of xs)) (without c.args.id (tree_of xs)))) c.as_slice.ensures.value c.in_ok-route.ensures.moved in
    let ok : no_place c.args.id c.args.parent c.args.place (tree_of c.self.inside.nodes.items) ≡ None = subst (λ (xs : List Node). no_place c.args.id c.args.parent c.args.place (tree_of xs) ≡ None) c.as_slice.ensures.value c.in_ok-route.ensures.ok in
    let new : refill (length c.self.inside.nodes.items) c.self.inside.nodes.items c.move_along.new.nodes ≡ moved_along c.in_ok-route.route c.self.inside.nodes.items = filled c.self.inside.nodes.items c.move_along.new.nodes (c.move_along.auto.nodes ∙ ap length c.as_mut_slice.ensures.value) ∙ c.move_along.ensures ∙ ap (moved_along c.in_ok-route.route) c.as_mut_slice.ensures.value in
    subst IsKept (sym new) (placed_kept c.args.id c.args.parent c.args.place c.self.inside.nodes.items (moved_along c.in_ok-route.route c.self.inside.nodes.items) c.self.invariant ok moved)

pub returns-clause-ok : goal.returns-clause-ok
returns-clause-ok c =
    let moved : rows_of (moved_along c.in_ok-route.route c.self.inside.nodes.items) ≡ flat 0 (set_in c.args.parent c.args.place (only c.args.id (tree_of c.self.inside.nodes.items)) (without c.args.id (tree_of c.self.inside.nodes.items))) =
    subst (λ (xs : List Node). rows_of (moved_along c.in_ok-route.route xs) ≡ flat 0 (set_in c.args.parent c.args.place (only c.args.id (tree_of xs)) (without c.args.id (tree_of xs)))) c.as_slice.ensures.value c.in_ok-route.ensures.moved in
    let ok : no_place c.args.id c.args.parent c.args.place (tree_of c.self.inside.nodes.items) ≡ None = subst (λ (xs : List Node). no_place c.args.id c.args.parent c.args.place (tree_of xs) ≡ None) c.as_slice.ensures.value c.in_ok-route.ensures.ok in
    let new : refill (length c.self.inside.nodes.items) c.self.inside.nodes.items c.move_along.new.nodes ≡ moved_along c.in_ok-route.route c.self.inside.nodes.items = filled c.self.inside.nodes.items c.move_along.new.nodes (c.move_along.auto.nodes ∙ ap length c.as_mut_slice.ensures.value) ∙ c.move_along.ensures ∙ ap (moved_along c.in_ok-route.route) c.as_mut_slice.ensures.value in
    ap (λ (t : Tree). answer (no_place c.args.id c.args.parent c.args.place t) (set_in c.args.parent c.args.place (only c.args.id t) (without c.args.id t))) (sym c.self.view_is)
    ∙ ap (λ o. answer o (set_in c.args.parent c.args.place (only c.args.id (tree_of c.self.inside.nodes.items)) (without c.args.id (tree_of c.self.inside.nodes.items)))) ok
    ∙ ap Ok (sym (ap tree_of new ∙ tree_from (moved_along c.in_ok-route.route c.self.inside.nodes.items) _ moved))
