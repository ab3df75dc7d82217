-- The group round a node, sought from the end.
use Rattle.std.proofs.Common.{◌≡◌, ℕ, suc, ◌+◌, ◌-◌, ◌<◌, ◌≤◌, Bool, true, false, cond, Some, None, is_some, List, [], ◌∷◌, ◌++◌, length, get_or, take, drop, refl, sym, ap, ◌∙◌, arith, eqb, ltb}
use Rattle.std.proofs.lemmas.List.{take_more}
use Rattle.std.proofs.lemmas.Bool.Decides.{nat_tests}
use Rattle.geom_core.proofs.Tests.{taken, kept}
use Rattle.doc_model.specs.Forest.{depth}
use Rattle.doc_model.specs.Readers.{parent}
use Rattle.tree_core.specs.declared.node.Node.{Node}
use Rattle.tree_core.specs.Nodes.{tree_of, IsKept, last_low}
use Rattle.tree_core.proofs.Passes.{first_with, last_above}
use Rattle.tree_core.proofs.Finding.{found_has}
use Rattle.tree_core.proofs.Depths.{depth_found}
use Rattle.tree_core.proofs.Once.{times_in, split_at, none_before, first_split, first_none}
use Rattle.tree_core.proofs.Parents.{parent_is, parent_lost}

-- the last node above, up to the node q
above_split : (q d best : ℕ) (front : List Node) (n : Node) (back : List Node) → times_in q front ≡ 0 → n.id ≡ q → last_above q d best (front ++ (n ∷ back)) ≡ Some (last_low d best front)
above_split q d best [] n back h e = taken (eqb n.id q) _ _ (grind (arith, nat_tests))
above_split q d best (m ∷ ms) n back h e = go (eqb m.id q) h (λ i. above_split q d (cond (ltb m.depth d) m.id best) ms n back i e)
  where
    go : (b : Bool) → cond b 1 0 + times_in q ms ≡ 0 → (times_in q ms ≡ 0 → last_above q d (cond (ltb m.depth d) m.id best) (ms ++ (n ∷ back)) ≡ Some (last_low d (cond (ltb m.depth d) m.id best) ms))
        → cond b (Some best) (last_above q d (cond (ltb m.depth d) m.id best) (ms ++ (n ∷ back))) ≡ Some (last_low d (cond (ltb m.depth d) m.id best) ms)
    go true h r = absurd (omega arith)
    go false h r = r (omega arith)

-- the node q is found, and the last above it is its parent
pub above_found : (q : ℕ) (nodes : List Node) (i : ℕ) (d : Node) (above : ℕ) → IsKept nodes → i < length nodes → (get_or nodes i d).id ≡ q → above ≡ last_low (get_or nodes i d).depth 0 (take i nodes) → Some above ≡ parent q 0 (tree_of nodes)
above_found q nodes i d above k h e a =
    ap Some a ∙ sym (above_split q n.depth 0 (take i nodes) n (drop (i + 1) nodes) none e) ∙ ap (last_above q n.depth 0) (sym (split_at nodes i d h)) ∙ parent_is q n.depth nodes (tree_of nodes) k refl deep
  where
    n : Node
    n = get_or nodes i d

    none : times_in q (take i nodes) ≡ 0
    none = none_before q nodes i d k h e

    deep : suc n.depth ≡ depth q (tree_of nodes)
    deep = let found : n.depth + 1 ≡ depth q (tree_of nodes) = depth_found q nodes (tree_of nodes) n k refl (ap (first_with q) (split_at nodes i d h) ∙ first_split q (take i nodes) n (drop (i + 1) nodes) none e) in omega arith

-- where no node has the id, there is none
pub above_lost : (q : ℕ) (nodes : List Node) → IsKept nodes → times_in q nodes ≡ 0 → None ≡ parent q 0 (tree_of nodes)
above_lost q nodes k h = sym (parent_lost q 0 (tree_of nodes) (sym (found_has q nodes k) ∙ ap is_some (first_none q nodes h)))

-- one more node at the end
low_more : (d best : ℕ) (xs : List Node) (n : Node) → last_low d best (xs ++ (n ∷ [])) ≡ cond (ltb n.depth d) n.id (last_low d best xs)
low_more d best [] n = refl
low_more d best (x ∷ xs) n = low_more d (cond (ltb x.depth d) x.id best) xs n

-- the last node is left out
low_last : (d : ℕ) (nodes : List Node) (back : ℕ) (m : Node) → back < length nodes → last_low d 0 (take (length nodes - back) nodes) ≡ cond (ltb (get_or nodes (length nodes - 1 - back) m).depth d) (get_or nodes (length nodes - 1 - back) m).id (last_low d 0 (take (length nodes - (back + 1)) nodes))
low_last d nodes back m h =
    ap (λ i. last_low d 0 (take i nodes)) here ∙ ap (last_low d 0) (take_more nodes (length nodes - 1 - back) m (omega arith)) ∙ low_more d 0 (take (length nodes - 1 - back) nodes) (get_or nodes (length nodes - 1 - back) m)
    ∙ ap (λ i. cond (ltb (get_or nodes (length nodes - 1 - back) m).depth d) (get_or nodes (length nodes - 1 - back) m).id (last_low d 0 (take i nodes))) next
  where
    here : length nodes - back ≡ length nodes - 1 - back + 1
    here = omega arith

    next : length nodes - 1 - back ≡ length nodes - (back + 1)
    next = omega arith

-- it is above
pub low_found : (d : ℕ) (nodes : List Node) (back : ℕ) (m : Node) → back < length nodes → (get_or nodes (length nodes - 1 - back) m).depth < d → last_low d 0 (take (length nodes - back) nodes) ≡ (get_or nodes (length nodes - 1 - back) m).id
low_found d nodes back m h low = low_last d nodes back m h ∙ taken (ltb (get_or nodes (length nodes - 1 - back) m).depth d) _ _ (grind (arith, nat_tests))

-- it isn't
pub low_next : (d : ℕ) (nodes : List Node) (back : ℕ) (m : Node) → back < length nodes → d ≤ (get_or nodes (length nodes - 1 - back) m).depth → last_low d 0 (take (length nodes - back) nodes) ≡ last_low d 0 (take (length nodes - (back + 1)) nodes)
low_next d nodes back m h high = low_last d nodes back m h ∙ kept (ltb (get_or nodes (length nodes - 1 - back) m).depth d) _ _ (grind (arith, nat_tests))
