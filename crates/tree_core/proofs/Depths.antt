-- Depths of nodes.
use Rattle.std.proofs.Common.{◌≡◌, ℕ, suc, ◌+◌, ◌≤◌, Bool, true, false, ◌||◌, cond, Option, Some, None, List, [], ◌∷◌, ◌++◌, map, refl, sym, ap, ◌∙◌, arith, eqb, append_assoc, append-nil}
use Rattle.std.specs.Prelude.{max}
use Rattle.geom_core.proofs.Tests.{kept, none_left, none_right}
use Rattle.doc_model.specs.Forest.{none, paint, group, has, height, depth}
use Rattle.doc_model.specs.Flat.{flat}
use Rattle.tree_core.specs.declared.node.Node.{Node}
use Rattle.tree_core.specs.Nodes.{Tree, row_of, tree_of, IsKept}
use Rattle.tree_core.proofs.Choices.{turned}
use Rattle.tree_core.proofs.Kept.{Rows}
use Rattle.tree_core.proofs.Passes.{first_with}

-- the depth of a node's children
abbrev pub depth_in : Option Node → ℕ
depth_in None = 0
depth_in (Some n) = suc n.depth

-- depths
abbrev up_depth : ℕ → Rows → ℕ
up_depth q [] = 0
up_depth q (r ∷ rs) = cond (eqb q r.id) (suc r.depth) (up_depth q rs)

-- it is the depth in the tree, counted from d
up_depth_flat : (q d : ℕ) (f : Tree) (rows : Rows) → up_depth q (flat d f ++ rows) ≡ cond (has q f) (d + depth q f) (up_depth q rows)
up_depth_flat q d none rows = refl
up_depth_flat q d (paint id look x rest) rows = go (eqb q id) (up_depth_flat q d rest rows)
  where
    go : (b : Bool) → up_depth q (flat d rest ++ rows) ≡ cond (has q rest) (d + depth q rest) (up_depth q rows) → cond b (suc d) (up_depth q (flat d rest ++ rows)) ≡ cond (b || has q rest) (d + cond b 1 (depth q rest)) (up_depth q rows)
    go true e = omega arith
    go false e = e
up_depth_flat q d (group id look nodes rest) rows = go (eqb q id) (has q nodes) (ap (up_depth q) (append_assoc (flat (suc d) nodes) (flat d rest) rows) ∙ up_depth_flat q (suc d) nodes (flat d rest ++ rows)) (up_depth_flat q d rest rows)
  where
    go : (b t : Bool) → up_depth q ((flat (suc d) nodes ++ flat d rest) ++ rows) ≡ cond t (suc d + depth q nodes) (up_depth q (flat d rest ++ rows)) → up_depth q (flat d rest ++ rows) ≡ cond (has q rest) (d + depth q rest) (up_depth q rows)
        → cond b (suc d) (up_depth q ((flat (suc d) nodes ++ flat d rest) ++ rows)) ≡ cond (b || (t || has q rest)) (d + cond b 1 (cond t (suc (depth q nodes)) (depth q rest))) (up_depth q rows)
    go true t e h = omega arith
    go false true e h = e ∙ omega arith
    go false false e h = e ∙ h

-- what is not there has no depth
pub depth_absent : (q : ℕ) (f : Tree) → has q f ≡ false → depth q f ≡ 0
depth_absent q none h = refl
depth_absent q (paint id look x rest) h = kept (eqb q id) _ _ (none_left (eqb q id) _ h) ∙ depth_absent q rest (none_right (eqb q id) _ h)
depth_absent q (group id look nodes rest) h = kept (eqb q id) _ _ (none_left (eqb q id) _ h) ∙ kept (has q nodes) _ _ (none_left (has q nodes) _ (none_right (eqb q id) _ h)) ∙ depth_absent q rest (none_right (has q nodes) _ (none_right (eqb q id) _ h))

-- the same of nodes
depth_rows : (q : ℕ) (nodes : List Node) → depth_in (first_with q nodes) ≡ up_depth q (map row_of nodes)
depth_rows q [] = refl
depth_rows q (n ∷ ns) = go (eqb n.id q) (depth_rows q ns) ∙ ap (λ b. cond b (suc n.depth) (up_depth q (map row_of ns))) (turned n.id q)
  where
    go : (b : Bool) → depth_in (first_with q ns) ≡ up_depth q (map row_of ns) → depth_in (cond b (Some n) (first_with q ns)) ≡ cond b (suc n.depth) (up_depth q (map row_of ns))
    go true e = refl
    go false e = e

-- the depth that is found is the tree's
pub depth_is : (q : ℕ) (nodes : List Node) → IsKept nodes → depth_in (first_with q nodes) ≡ depth q (tree_of nodes)
depth_is q nodes k = depth_rows q nodes ∙ ap (up_depth q) (k.whole ∙ sym (append-nil (flat 0 (tree_of nodes)))) ∙ up_depth_flat q 0 (tree_of nodes) [] ∙ go (has q (tree_of nodes)) refl
  where
    go : (b : Bool) → has q (tree_of nodes) ≡ b → cond b (0 + depth q (tree_of nodes)) 0 ≡ depth q (tree_of nodes)
    go true e = omega arith
    go false e = sym (depth_absent q (tree_of nodes) e)

-- no node is deeper than the tree is high
depth_height : (q : ℕ) (f : Tree) → depth q f ≤ height f
depth_height q none = omega arith
depth_height q (paint id look x rest) = go (eqb q id) (depth_height q rest)
  where
    go : (b : Bool) → depth q rest ≤ height rest → cond b 1 (depth q rest) ≤ max 1 (height rest)
    go true h = omega arith
    go false h = omega arith
depth_height q (group id look nodes rest) = go (eqb q id) (has q nodes) (depth_height q nodes) (depth_height q rest)
  where
    go : (b t : Bool) → depth q nodes ≤ height nodes → depth q rest ≤ height rest → cond b 1 (cond t (suc (depth q nodes)) (depth q rest)) ≤ max (suc (height nodes)) (height rest)
    go true t m r = omega arith
    go false true m r = omega arith
    go false false m r = omega arith

-- which is low
pub depth_low : (q : ℕ) (nodes : List Node) → IsKept nodes → depth q (tree_of nodes) ≤ 16
depth_low q nodes k = let h : depth q (tree_of nodes) ≤ height (tree_of nodes) = depth_height q (tree_of nodes) in omega (arith, k.low)

-- the answers of `depth`
-- what the calls answer
pub depth_found : (q : ℕ) (nodes : List Node) (t : Tree) (n : Node) → IsKept nodes → tree_of nodes ≡ t → first_with q nodes ≡ Some n → n.depth + 1 ≡ depth q t
depth_found q nodes t n k is e =
    let h : suc n.depth ≡ depth q t = ap depth_in (sym e) ∙ depth_is q nodes k ∙ ap (depth q) is in omega arith

-- a found node stands at most at depth 16
pub depth_few : (q : ℕ) (nodes : List Node) (n : Node) → IsKept nodes → first_with q nodes ≡ Some n → n.depth + 1 ≤ 16
depth_few q nodes n k e =
    let h : n.depth + 1 ≡ depth q (tree_of nodes) = depth_found q nodes (tree_of nodes) n k refl e in
    let l : depth q (tree_of nodes) ≤ 16 = depth_low q nodes k in
    omega arith

-- a node that is there has a depth above 0
pub depth_some : (q : ℕ) (f : Tree) → has q f ≡ true → (k : ℕ) × (suc k ≡ depth q f)
depth_some q none h = absurd (let t : false ≡ true = h in cc)
depth_some q (paint id look x rest) h = go (λ e. depth_some q rest e) (eqb q id) h
  where
    go : (has q rest ≡ true → (k : ℕ) × (suc k ≡ depth q rest)) → (b : Bool) → (b || has q rest) ≡ true → (k : ℕ) × (suc k ≡ cond b 1 (depth q rest))
    go r true h = (0, refl)
    go r false h = r h
depth_some q (group id look nodes rest) h = go (λ e. depth_some q nodes e) (λ e. depth_some q rest e) (eqb q id) (has q nodes) refl h
  where
    go : (has q nodes ≡ true → (k : ℕ) × (suc k ≡ depth q nodes)) → (has q rest ≡ true → (k : ℕ) × (suc k ≡ depth q rest)) → (b t : Bool) → has q nodes ≡ t → (b || (t || has q rest)) ≡ true → (k : ℕ) × (suc k ≡ cond b 1 (cond t (suc (depth q nodes)) (depth q rest)))
    go m r true t i h = (0, refl)
    go m r false true i h = let k : (k : ℕ) × (suc k ≡ depth q nodes) = m i in (suc k.0, ap suc k.1)
    go m r false false i h = r h
