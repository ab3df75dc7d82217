-- The nodes in a group.
use Rattle.std.proofs.Common.{◌≡◌, ℕ, true, false, None, List, refl, sym, ap, ◌∙◌, eqb}
use Rattle.geom_core.proofs.Tests.{kept, none_left, none_right}
use Rattle.doc_model.specs.Forest.{none, paint, group, is_group, width, depth, children, join}
use Rattle.doc_model.specs.Flat.{read, read-flat}
use Rattle.doc_model.specs.Changes.{takes, child_count}
use Rattle.tree_core.specs.declared.node.Node.{Node}
use Rattle.tree_core.specs.Nodes.{Tree, rows_of, tree_of, IsKept}
use Rattle.doc_model.specs.Children.{side_at, child_in}
use Rattle.tree_core.proofs.Passes.{nodes_after}
use Rattle.tree_core.proofs.Between.{Between, between}

-- what is read after a group, at its children's depth, are its children
pub read_held : (q : ℕ) (nodes : List Node) (b : Between q nodes) (t : Tree) → tree_of nodes ≡ t → (d : ℕ) (rest : List Node) → d ≡ depth q t → rest ≡ nodes_after q nodes → read d (rows_of rest) ≡ b.held
read_held q nodes b t is d rest e h =
    ap (λ x. read x (rows_of rest)) (e ∙ ap (depth q) (sym is)) ∙ ap (λ xs. read (depth q (tree_of nodes)) (rows_of xs)) h ∙ ap (read (depth q (tree_of nodes))) b.rest ∙ read-flat (depth q (tree_of nodes)) b.held b.more b.ends

-- so many are counted
pub children_now : (q : ℕ) (nodes : List Node) (t : Tree) → IsKept nodes → tree_of nodes ≡ t → takes q t ≡ true → (d : ℕ) (rest : List Node) → d ≡ depth q t → rest ≡ nodes_after q nodes → width (read d (rows_of rest)) ≡ child_count q t
children_now q nodes t k is g d rest e h =
    let b : Between q nodes = between q nodes k (ap (takes q) is ∙ g) in
    ap width (read_held q nodes b t is d rest e h) ∙ sym b.many ∙ ap (child_count q) is

-- and each stands at its place
pub child_now : (q k : ℕ) (nodes : List Node) (t : Tree) → IsKept nodes → tree_of nodes ≡ t → takes q t ≡ true → (d : ℕ) (rest : List Node) → d ≡ depth q t → rest ≡ nodes_after q nodes → side_at k (read d (rows_of rest)) ≡ child_in q k t
child_now q k nodes t kept_nodes is g d rest e h =
    let b : Between q nodes = between q nodes kept_nodes (ap (takes q) is ∙ g) in
    ap (side_at k) (read_held q nodes b t is d rest e h ∙ sym b.held_is) ∙ ap (child_in q k) is

-- what is no group has no children
children_none : (q : ℕ) (f : Tree) → is_group q f ≡ false → children q f ≡ none
children_none q none h = refl
children_none q (paint id look x rest) h = children_none q rest h
children_none q (group id look nodes rest) h = kept (eqb q id) _ _ (none_left (eqb q id) _ h) ∙ ap (λ a. join a (children q rest)) (children_none q nodes (none_left (is_group q nodes) _ (none_right (eqb q id) _ h))) ∙ children_none q rest (none_right (is_group q nodes) _ (none_right (eqb q id) _ h))

-- none is counted
pub no_children_are : (q : ℕ) (t : Tree) → takes q t ≡ false → 0 ≡ child_count q t
no_children_are q t h = sym (kept (eqb q 0) _ _ (none_left (eqb q 0) _ h) ∙ ap width (children_none q t (none_right (eqb q 0) _ h)))

-- none stands at any place
pub no_child_is : (q k : ℕ) (t : Tree) → takes q t ≡ false → None ≡ child_in q k t
no_child_is q k t h = sym (ap (side_at k) (kept (eqb q 0) _ _ (none_left (eqb q 0) _ h) ∙ children_none q t (none_right (eqb q 0) _ h)))
