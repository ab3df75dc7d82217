-- No id stands twice among the nodes of a tree.
use Rattle.std.proofs.Common.{◌≡◌, ◌≢◌, ℕ, suc, ◌+◌, ◌-◌, ◌<◌, ◌≤◌, Bool, true, false, ◌&&◌, ◌||◌, not, cond, Some, None, is_some, List, [], ◌∷◌, ◌++◌, map, length, get_or, take, drop, refl, sym, ap, ◌∙◌, arith, eqb, subst, take-append-drop}
use Rattle.std.proofs.lemmas.Bool.Decides.{nat_tests}
use Rattle.geom_core.proofs.Tests.{taken, kept, or-false}
use Rattle.doc_model.specs.Forest.{none, paint, group, is_group, depth}
use Rattle.doc_model.specs.Flat.{flat}
use Rattle.doc_model.specs.Changes.{takes}
use Rattle.doc_model.specs.Ids.{times}
use Rattle.doc_model.proofs.Paths.{group_has}
use Rattle.doc_model.proofs.Weights.{tree_root}
use Rattle.tree_core.specs.declared.node.Node.{Node}
use Rattle.tree_core.specs.Nodes.{Tree, row_of, tree_of, IsKept}
use Rattle.tree_core.proofs.Choices.{turned}
use Rattle.tree_core.proofs.Kept.{Rows}
use Rattle.tree_core.proofs.Passes.{first_with, next_node}
use Rattle.tree_core.proofs.Finding.{found_has, group_with, group_is}
use Rattle.tree_core.proofs.Depths.{depth_absent}

-- how many nodes have the id q
abbrev pub times_in : ℕ → List Node → ℕ
times_in q [] = 0
times_in q (n ∷ ns) = cond (eqb n.id q) 1 0 + times_in q ns

-- how many rows have it
abbrev row_times : ℕ → Rows → ℕ
row_times q [] = 0
row_times q (r ∷ rs) = cond (eqb q r.id) 1 0 + row_times q rs

-- rows one after another
rows_append : (q : ℕ) (xs ys : Rows) → row_times q (xs ++ ys) ≡ row_times q xs + row_times q ys
rows_append q [] ys = omega arith
rows_append q (x ∷ xs) ys = let h : row_times q (xs ++ ys) ≡ row_times q xs + row_times q ys = rows_append q xs ys in omega arith

-- as often as in the tree
times_flat : (q d : ℕ) (f : Tree) → row_times q (flat d f) ≡ times q f
times_flat q d none = refl
times_flat q d (paint id look x rest) = ap (λ n. cond (eqb q id) 1 0 + n) (times_flat q d rest)
times_flat q d (group id look nodes rest) = ap (λ n. cond (eqb q id) 1 0 + n)
    (rows_append q (flat (suc d) nodes) (flat d rest) ∙ ap (λ n. n + row_times q (flat d rest)) (times_flat q (suc d) nodes) ∙ ap (λ n. times q nodes + n) (times_flat q d rest))

-- the same of nodes
times_rows : (q : ℕ) (nodes : List Node) → times_in q nodes ≡ row_times q (map row_of nodes)
times_rows q [] = refl
times_rows q (n ∷ ns) = ap (λ b. cond b 1 0 + times_in q ns) (turned n.id q) ∙ ap (λ m. cond (eqb q n.id) 1 0 + m) (times_rows q ns)

-- once at most
pub once_in : (q : ℕ) (nodes : List Node) → IsKept nodes → times_in q nodes ≤ 1
once_in q nodes k = subst (λ n. n ≤ 1) (sym (times_rows q nodes ∙ ap (row_times q) k.whole ∙ times_flat q 0 (tree_of nodes))) (k.once.once q)

-- no group has an id that no node has
no_group : (q : ℕ) (nodes : List Node) → times_in q nodes ≡ 0 → group_with q nodes ≡ false
no_group q [] h = refl
no_group q (n ∷ ns) h = go (eqb n.id q) h (λ e. no_group q ns e)
  where
    go : (b : Bool) → cond b 1 0 + times_in q ns ≡ 0 → (times_in q ns ≡ 0 → group_with q ns ≡ false) → ((b && not n.paints) || group_with q ns) ≡ false
    go true h r = absurd (omega arith)
    go false h r = r (omega arith)

-- what was found
same_node : (m n : Node) → Some m ≡ Some n → m ≡ n
same_node m n e = cc

-- the node that was found tells whether a group has the id
lone_group : (q : ℕ) (nodes : List Node) (n : Node) → times_in q nodes ≤ 1 → first_with q nodes ≡ Some n → group_with q nodes ≡ not n.paints
lone_group q [] n h e = absurd (cc)
lone_group q (m ∷ ms) n h e = go (eqb m.id q) h e (λ i f. lone_group q ms n i f)
  where
    go : (b : Bool) → cond b 1 0 + times_in q ms ≤ 1 → cond b (Some m) (first_with q ms) ≡ Some n → (times_in q ms ≤ 1 → first_with q ms ≡ Some n → group_with q ms ≡ not n.paints) → ((b && not m.paints) || group_with q ms) ≡ not n.paints
    go true h e r = ap (λ x. not m.paints || x) (no_group q ms (omega arith)) ∙ or-false (not m.paints) ∙ ap (λ (x : Node). not x.paints) (same_node m n e)
    go false h e r = r (omega arith) e

-- a test that fails
not_root : (q : ℕ) → q ≢ 0 → eqb q 0 ≡ false
not_root q e = grind (arith, nat_tests)

-- so it tells whether it takes children
pub takes_found : (q : ℕ) (nodes : List Node) (n : Node) → IsKept nodes → q ≢ 0 → first_with q nodes ≡ Some n → not n.paints ≡ takes q (tree_of nodes)
takes_found q nodes n k other e = sym (ap (λ b. b || is_group q (tree_of nodes)) (not_root q other) ∙ sym (group_is q nodes k) ∙ lone_group q nodes n (once_in q nodes k) e)

-- where no node was found, none does
pub takes_lost : (q : ℕ) (nodes : List Node) → IsKept nodes → q ≢ 0 → first_with q nodes ≡ None → false ≡ takes q (tree_of nodes)
takes_lost q nodes k other e = sym (ap (λ b. b || is_group q (tree_of nodes)) (not_root q other) ∙ go (is_group q (tree_of nodes)) refl)
  where
    go : (b : Bool) → is_group q (tree_of nodes) ≡ b → b ≡ false
    go true h = sym (group_has q (tree_of nodes) h) ∙ sym (found_has q nodes k) ∙ ap is_some e
    go false h = refl

-- nodes one after another
times_append : (q : ℕ) (xs ys : List Node) → times_in q (xs ++ ys) ≡ times_in q xs + times_in q ys
times_append q [] ys = omega arith
times_append q (x ∷ xs) ys = let h : times_in q (xs ++ ys) ≡ times_in q xs + times_in q ys = times_append q xs ys in omega arith

-- a node that has the id
counted : (q : ℕ) (n : Node) → n.id ≡ q → cond {A = ℕ} (eqb n.id q) 1 0 ≡ 1
counted q n e = taken (eqb n.id q) 1 0 (grind (arith, nat_tests))

-- the nodes before, the node and those after it
pub split_at : (nodes : List Node) (i : ℕ) (d : Node) → i < length nodes → nodes ≡ take i nodes ++ (get_or nodes i d ∷ drop (i + 1) nodes)
split_at nodes i d h = sym (take-append-drop i nodes) ∙ ap (λ xs. take i nodes ++ xs) (next_node nodes i d h)

-- none before the one that has the id has it too
pub none_before : (q : ℕ) (nodes : List Node) (i : ℕ) (d : Node) → IsKept nodes → i < length nodes → (get_or nodes i d).id ≡ q → times_in q (take i nodes) ≡ 0
none_before q nodes i d k h e =
    let all : times_in q nodes ≡ times_in q (take i nodes) + (cond (eqb (get_or nodes i d).id q) 1 0 + times_in q (drop (i + 1) nodes)) = ap (times_in q) (split_at nodes i d h) ∙ times_append q (take i nodes) (get_or nodes i d ∷ drop (i + 1) nodes) in
    let one : cond {A = ℕ} (eqb (get_or nodes i d).id q) 1 0 ≡ 1 = counted q (get_or nodes i d) e in
    let most : times_in q nodes ≤ 1 = once_in q nodes k in
    omega arith

-- nor one after it
pub none_after : (q : ℕ) (nodes : List Node) (i : ℕ) (d : Node) → IsKept nodes → i < length nodes → (get_or nodes i d).id ≡ q → times_in q (drop (i + 1) nodes) ≡ 0
none_after q nodes i d k h e =
    let all : times_in q nodes ≡ times_in q (take i nodes) + (cond (eqb (get_or nodes i d).id q) 1 0 + times_in q (drop (i + 1) nodes)) = ap (times_in q) (split_at nodes i d h) ∙ times_append q (take i nodes) (get_or nodes i d ∷ drop (i + 1) nodes) in
    let one : cond {A = ℕ} (eqb (get_or nodes i d).id q) 1 0 ≡ 1 = counted q (get_or nodes i d) e in
    let most : times_in q nodes ≤ 1 = once_in q nodes k in
    omega arith

-- so it is the first
pub first_split : (q : ℕ) (front : List Node) (n : Node) (back : List Node) → times_in q front ≡ 0 → n.id ≡ q → first_with q (front ++ (n ∷ back)) ≡ Some n
first_split q [] n back h e = taken (eqb n.id q) _ _ (grind (arith, nat_tests))
first_split q (m ∷ ms) n back h e = go (eqb m.id q) h (λ i. first_split q ms n back i e)
  where
    go : (b : Bool) → cond b 1 0 + times_in q ms ≡ 0 → (times_in q ms ≡ 0 → first_with q (ms ++ (n ∷ back)) ≡ Some n) → cond b (Some m) (first_with q (ms ++ (n ∷ back))) ≡ Some n
    go true h r = absurd (omega arith)
    go false h r = r (omega arith)

-- none is found where none has the id
pub first_none : (q : ℕ) (nodes : List Node) → times_in q nodes ≡ 0 → first_with q nodes ≡ None
first_none q [] h = refl
first_none q (n ∷ ns) h = go (eqb n.id q) h (λ i. first_none q ns i)
  where
    go : (b : Bool) → cond b 1 0 + times_in q ns ≡ 0 → (times_in q ns ≡ 0 → first_with q ns ≡ None) → cond b (Some n) (first_with q ns) ≡ None
    go true h r = absurd (omega arith)
    go false h r = r (omega arith)

-- one more node that hasn't the id, sought from the end
pub none_yet : (q : ℕ) (nodes : List Node) (back : ℕ) (d : Node) → back < length nodes → (get_or nodes (length nodes - 1 - back) d).id ≢ q → times_in q (drop (length nodes - back) nodes) ≡ 0 → times_in q (drop (length nodes - (back + 1)) nodes) ≡ 0
none_yet q nodes back d h other e = ap (λ i. times_in q (drop i nodes)) here ∙ ap (times_in q) (next_node nodes (length nodes - 1 - back) d (omega arith)) ∙ none_both
  where
    here : length nodes - (back + 1) ≡ length nodes - 1 - back
    here = omega arith

    next : length nodes - 1 - back + 1 ≡ length nodes - back
    next = omega arith

    none_both : cond {A = ℕ} (eqb (get_or nodes (length nodes - 1 - back) d).id q) 1 0 + times_in q (drop (length nodes - 1 - back + 1) nodes) ≡ 0
    none_both =
        let a : cond {A = ℕ} (eqb (get_or nodes (length nodes - 1 - back) d).id q) 1 0 ≡ 0 = kept (eqb (get_or nodes (length nodes - 1 - back) d).id q) 1 0 (grind (arith, nat_tests)) in
        let b : times_in q (drop (length nodes - 1 - back + 1) nodes) ≡ 0 = ap (λ i. times_in q (drop i nodes)) next ∙ e in
        omega arith

-- the node at hand is the first with the id
pub first_at : (q : ℕ) (nodes : List Node) (i : ℕ) (d : Node) → first_with q nodes ≡ first_with q (drop i nodes) → i < length nodes → (get_or nodes i d).id ≡ q → first_with q nodes ≡ Some (get_or nodes i d)
first_at q nodes i d so h e = so ∙ ap (first_with q) (next_node nodes i d h) ∙ taken (eqb (get_or nodes i d).id q) _ _ (grind (arith, nat_tests))

-- no node is the root
pub root_depth : (q : ℕ) (nodes : List Node) → IsKept nodes → q ≡ 0 → 0 ≡ depth q (tree_of nodes)
root_depth q nodes k e = sym (ap (λ n. depth n (tree_of nodes)) e ∙ depth_absent 0 (tree_of nodes) (tree_root (tree_of nodes) k.once))
