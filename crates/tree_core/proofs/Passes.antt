-- What the passes over the nodes go through, and what it comes to.
use Rattle.std.proofs.Common.{◌≡◌, ◌≢◌, ℕ, suc, ◌+◌, ◌-◌, Bool, true, false, not, ◌<◌, cond, length, get_or, add-one, drop-cons, Option, Some, None, List, [], ◌∷◌, take, drop, refl, sym, ap, ◌∙◌, arith, eqb, ltb}
use Rattle.std.specs.List.{find, position_or_len, take_while}
use Rattle.std.proofs.lemmas.List.Sums.{take_while-cons}
use Rattle.std.proofs.lemmas.Grind.{common_steps}
use Rattle.std.proofs.lemmas.Bool.Decides.{nat_tests}
use Rattle.geom_core.proofs.Tests.{kept, taken, same_choice}
use Rattle.doc_model.specs.declared.tree.Look.{Look}
use Rattle.doc_model.specs.Forest.{none, width}
use Rattle.doc_model.specs.Flat.{read, node}
use Rattle.tree_core.specs.declared.node.Node.{Node}
use Rattle.tree_core.specs.Nodes.{Tree, rows_of, content_of, start_in}
use Rattle.doc_model.specs.Children.{side_at}

-- the first node with the id q
abbrev pub first_with : ℕ → List Node → Option Node
first_with q nodes = find (λ n. eqb n.id q) nodes

-- whether the depth d lies below skip, the depth of a node that is left out
abbrev is_below : Option ℕ → ℕ → Bool
is_below None d = false
is_below (Some k) d = ltb k d

-- without the node q and those below it; skip is the depth of a node that was left out just before
abbrev pub cut : ℕ → Option ℕ → List Node → List Node
cut q skip [] = []
cut q skip (n ∷ ns) = cond (is_below skip n.depth) (cut q skip ns) (cond (eqb n.id q) (cut q (Some n.depth) ns) (n ∷ cut q None ns))

-- the nodes after the group q, or all of them where q is the root
abbrev pub nodes_after : ℕ → List Node → List Node
nodes_after q nodes = drop (start_in q nodes) nodes

-- the nodes after the node q
abbrev pub after_node : ℕ → List Node → List Node
after_node q [] = []
after_node q (n ∷ ns) = cond (eqb n.id q) ns (after_node q ns)

-- how many nodes stand at the depth d before the first above it
abbrev pub kids : ℕ → List Node → ℕ
kids d [] = 0
kids d (n ∷ ns) = cond (ltb n.depth d) 0 (cond (eqb n.depth d) (suc (kids d ns)) (kids d ns))

-- the id of the k-th of them
abbrev pub kid_at : ℕ → ℕ → List Node → Option ℕ
kid_at d k [] = None
kid_at d k (n ∷ ns) = cond (ltb n.depth d) None (cond (eqb n.depth d) (cond (eqb k 0) (Some n.id) (kid_at d (k - 1) ns)) (kid_at d k ns))

-- the nodes at the front that are deeper
abbrev pub deeper : ℕ → List Node → List Node
deeper d [] = []
deeper d (n ∷ ns) = cond (ltb d n.depth) (n ∷ deeper d ns) []

-- the node q with those below it
abbrev pub part : ℕ → List Node → List Node
part q [] = []
part q (n ∷ ns) = cond (eqb n.id q) (n ∷ deeper n.depth ns) (part q ns)

-- the id of the last node before q that stands above the depth d, or best
abbrev pub last_above : ℕ → ℕ → ℕ → List Node → Option ℕ
last_above q d best [] = None
last_above q d best (n ∷ ns) = cond (eqb n.id q) (Some best) (last_above q d (cond (ltb n.depth d) n.id best) ns)

-- one more
one_more : (m : ℕ) → suc m ≡ 1 + m
one_more m = omega arith

-- the nodes after q, in std's words
after_node_is : (q : ℕ) (nodes : List Node) → after_node q nodes ≡ drop (suc (position_or_len (λ n. eqb n.id q) nodes)) nodes
after_node_is q [] = refl
after_node_is q (n ∷ ns) = go (eqb n.id q) (after_node_is q ns)
  where
    go : (b : Bool) → after_node q ns ≡ drop (suc (position_or_len (λ n. eqb n.id q) ns)) ns → cond b ns (after_node q ns) ≡ drop (cond (not b) (1 + position_or_len (λ n. eqb n.id q) ns) 0) ns
    go true e = refl
    go false e = e ∙ ap (λ m. drop m ns) (one_more (position_or_len (λ n. eqb n.id q) ns))

-- the nodes after a group
pub after_nodes : (q : ℕ) (nodes : List Node) → q ≢ 0 → after_node q nodes ≡ nodes_after q nodes
after_nodes q nodes other = after_node_is q nodes ∙ ap (λ i. drop i nodes) (sym (kept (eqb q 0) 0 (suc (position_or_len (λ n. eqb n.id q) nodes)) (grind (arith, nat_tests))))

-- the deeper nodes, in std's words
pub deeper_is : (d : ℕ) (nodes : List Node) → deeper d nodes ≡ take_while (λ n. ltb d n.depth) nodes
deeper_is d [] = refl
deeper_is d (n ∷ ns) = same_choice (ltb d n.depth) (ap (λ xs. n ∷ xs) (deeper_is d ns)) refl ∙ sym (take_while-cons (λ n. ltb d n.depth) n ns)

-- a node that is read counts once
width-node : (c : Option (Unit {0})) (id : ℕ) (look : Look) (nodes rest : Tree) → width (node c id look nodes rest) ≡ suc (width rest)
width-node None id look nodes rest = refl
width-node (Some x) id look nodes rest = refl

-- the tests of a depth above
not_less : (d k : ℕ) → ltb k d ≡ true → (ltb d k ≡ false) × (eqb k d ≡ false)
not_less d k h = (grind (arith, nat_tests), grind (arith, nat_tests))

-- the test of a depth below
is_less : (d k : ℕ) → ltb k d ≡ false → eqb k d ≡ false → ltb d k ≡ true
is_less d k h e = grind (arith, nat_tests)

-- how many nodes are read at a depth
pub kids_is : (d : ℕ) (nodes : List Node) → kids d nodes ≡ width (read d (rows_of nodes))
kids_is d [] = refl
kids_is d (n ∷ ns) = go (ltb n.depth d) refl (eqb n.depth d) refl (kids_is d ns)
  where
    rest : Tree
    rest = read d (rows_of ns)

    inner : Tree
    inner = read (suc d) (rows_of ns)

    go : (b : Bool) → ltb n.depth d ≡ b → (t : Bool) → eqb n.depth d ≡ t → kids d ns ≡ width rest
        → cond b 0 (cond t (suc (kids d ns)) (kids d ns)) ≡ width (cond t (node (content_of n.paints) n.id n.look inner rest) (cond (ltb d n.depth) rest none))
    go true h t e i = sym (ap (λ x. width (cond x (node (content_of n.paints) n.id n.look inner rest) (cond (ltb d n.depth) rest none))) (sym e ∙ (not_less d n.depth h).1) ∙ ap (λ x. width (cond x rest none)) ((not_less d n.depth h).0))
    go false h true e i = ap suc i ∙ sym (width-node (content_of n.paints) n.id n.look inner rest)
    go false h false e i = i ∙ ap (λ x. width (cond x rest none)) (sym (is_less d n.depth h e))

-- a node that is read stands at one place
side_at-node : (k : ℕ) (c : Option (Unit {0})) (id : ℕ) (look : Look) (nodes rest : Tree) → side_at k (node c id look nodes rest) ≡ cond (eqb k 0) (Some id) (side_at (k - 1) rest)
side_at-node k None id look nodes rest = refl
side_at-node k (Some x) id look nodes rest = refl

-- the k-th of the nodes that are read at a depth
pub kid_at_is : (d k : ℕ) (nodes : List Node) → kid_at d k nodes ≡ side_at k (read d (rows_of nodes))
kid_at_is d k [] = refl
kid_at_is d k (n ∷ ns) = go (ltb n.depth d) refl (eqb n.depth d) refl (kid_at_is d k ns) (kid_at_is d (k - 1) ns)
  where
    rest : Tree
    rest = read d (rows_of ns)

    inner : Tree
    inner = read (suc d) (rows_of ns)

    go : (b : Bool) → ltb n.depth d ≡ b → (t : Bool) → eqb n.depth d ≡ t → kid_at d k ns ≡ side_at k rest → kid_at d (k - 1) ns ≡ side_at (k - 1) rest
        → cond b None (cond t (cond (eqb k 0) (Some n.id) (kid_at d (k - 1) ns)) (kid_at d k ns)) ≡ side_at k (cond t (node (content_of n.paints) n.id n.look inner rest) (cond (ltb d n.depth) rest none))
    go true h t e i j = sym (ap (λ x. side_at k (cond x (node (content_of n.paints) n.id n.look inner rest) (cond (ltb d n.depth) rest none))) (sym e ∙ (not_less d n.depth h).1) ∙ ap (λ x. side_at k (cond x rest none)) ((not_less d n.depth h).0))
    go false h true e i j = same_choice (eqb k 0) refl j ∙ sym (side_at-node k (content_of n.paints) n.id n.look inner rest)
    go false h false e i j = i ∙ ap (λ x. side_at k (cond x rest none)) (sym (is_less d n.depth h e))

-- what is left begins with the node at hand
pub next_node : (nodes : List Node) (i : ℕ) (d : Node) → i < length nodes → drop i nodes ≡ get_or nodes i d ∷ drop (i + 1) nodes
next_node nodes i d h = rw (add-one, drop-cons nodes i d) refl

-- a slice to the end
pub whole_rest : (nodes : List Node) (i : ℕ) → take (length nodes - i) (drop i nodes) ≡ drop i nodes
whole_rest nodes i = grind (arith, common_steps)

-- the child at a place is found
pub kid_found : (l k : ℕ) (nodes : List Node) (i left : ℕ) (d : Node) → kid_at l k nodes ≡ kid_at l left (drop i nodes) → i < length nodes → (get_or nodes i d).depth ≡ l → left ≡ 0 → Some (get_or nodes i d).id ≡ kid_at l k nodes
kid_found l k nodes i left d so h e z = sym (so ∙ ap (kid_at l left) (next_node nodes i d h) ∙ kept (ltb (get_or nodes i d).depth l) _ _ (grind (arith, nat_tests)) ∙ taken (eqb (get_or nodes i d).depth l) _ _ (grind (arith, nat_tests)) ∙ taken (eqb left 0) _ _ (grind (arith, nat_tests)))

-- a node above ends the children
pub kid_none : (l k : ℕ) (nodes : List Node) (i left : ℕ) (d : Node) → kid_at l k nodes ≡ kid_at l left (drop i nodes) → i < length nodes → (get_or nodes i d).depth < l → None ≡ kid_at l k nodes
kid_none l k nodes i left d so h above = sym (so ∙ ap (kid_at l left) (next_node nodes i d h) ∙ taken (ltb (get_or nodes i d).depth l) _ _ (grind (arith, nat_tests)))
