-- Lists of nodes that are those of a tree.
use Rattle.std.proofs.Common.{◌≡◌, ℕ, suc, zero, ◌+◌, ◌≤◌, Some, None, List, [], ◌∷◌, ◌++◌, map, length, refl, sym, ap, ◌∙◌, arith, subst, append_assoc, append-nil, length-append}
use Rattle.std.proofs.lemmas.List.{length-map}
use Rattle.doc_model.specs.Forest.{none, paint, group, count, height, join, lower, upper}
use Rattle.doc_model.specs.Flat.{Row, flat, read, read-flat}
use Rattle.doc_model.specs.Ids.{IsTree}
use Rattle.tree_core.specs.declared.node.Node.{Node}
use Rattle.tree_core.specs.Nodes.{Tree, row_of, tree_of, IsKept}

-- rows of a tree
abbrev pub Rows : Type 0
Rows = List (Row (Unit {0}))

-- a list of nodes that is a tree's is kept
pub tree_from : (nodes : List Node) (f : Tree) → map row_of nodes ≡ flat 0 f → tree_of nodes ≡ f
tree_from nodes f e = ap (read 0) e ∙ ap (read 0) (sym (append-nil (flat 0 f))) ∙ read-flat 0 f [] tt

-- and so it is kept, where the tree is one of the limits
pub kept_from : (nodes : List Node) (f : Tree) → map row_of nodes ≡ flat 0 f → IsTree f → height f ≤ 16 → IsKept nodes
kept_from nodes f e t h =
    let is : tree_of nodes ≡ f = tree_from nodes f e in
    record { whole = e ∙ ap (flat 0) (sym is); once = subst IsTree (sym is) t; low = subst (λ g. height g ≤ 16) (sym is) h }

-- the number of nodes
pub length_flat : (d : ℕ) (f : Tree) → length (flat d f) ≡ count f
length_flat d none = refl
length_flat d (paint id look x rest) = let h : length (flat d rest) ≡ count rest = length_flat d rest in omega arith
length_flat d (group id look nodes rest) =
    let a : length (flat (suc d) nodes) ≡ count nodes = length_flat (suc d) nodes in
    let b : length (flat d rest) ≡ count rest = length_flat d rest in
    let c : length (flat (suc d) nodes ++ flat d rest) ≡ length (flat (suc d) nodes) + length (flat d rest) = length-append (flat (suc d) nodes) (flat d rest) in
    omega arith

-- as many nodes as the tree has
pub count_is : (nodes : List Node) → IsKept nodes → length nodes ≡ count (tree_of nodes)
count_is nodes k = sym (length-map nodes row_of) ∙ ap length k.whole ∙ length_flat 0 (tree_of nodes)

-- nodes side by side
pub flat_join : (e : ℕ) (a b : Tree) → flat e (join a b) ≡ flat e a ++ flat e b
flat_join e none b = refl
flat_join e (paint id look x rest) b = ap (λ rs. record { depth = e; id = id; look = look; content = Some x } ∷ rs) (flat_join e rest b)
flat_join e (group id look nodes rest) b = ap (λ rs. record { depth = e; id = id; look = look; content = None } ∷ rs) (ap (λ x. flat (suc e) nodes ++ x) (flat_join e rest b) ∙ sym (append_assoc (flat (suc e) nodes) (flat e rest) (flat e b)))

-- the nodes below a place and those from it on
pub join_split : (k : ℕ) (g : Tree) → join (lower k g) (upper k g) ≡ g
join_split zero g = refl
join_split (suc k) none = refl
join_split (suc k) (paint id look x rest) = ap (paint id look x) (join_split k rest)
join_split (suc k) (group id look nodes rest) = ap (group id look nodes) (join_split k rest)
