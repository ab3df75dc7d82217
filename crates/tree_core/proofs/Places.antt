-- A place that is sought among the children of a group.
use Rattle.std.proofs.Common.{◌≡◌, ◌≢◌, ℕ, suc, ◌+◌, ◌-◌, ◌<◌, ◌≤◌, Bool, true, false, not, List, [], ◌∷◌, length, get_or, drop, refl, sym, ap, subst, ◌∙◌, arith, eqb, ltb}
use Rattle.std.specs.Int.{from_bool}
use Rattle.std.proofs.lemmas.Grind.{common_steps}
use Rattle.std.proofs.lemmas.Bool.Decides.{nat_tests}
use Rattle.geom_core.proofs.Tests.{taken, kept}
use Rattle.doc_model.specs.Forest.{width}
use Rattle.doc_model.specs.Flat.{read}
use Rattle.tree_core.specs.declared.node.Node.{Node}
use Rattle.tree_core.specs.Nodes.{rows_of, nodes_before}
use Rattle.tree_core.proofs.Passes.{kids, kids_is, next_node}

-- among the nodes from s on, i are passed and so many children among them, and the place k is yet to come
pub record Reached (d k s : ℕ) (xs : List Node) (i passed : ℕ) : Type 0 where
  pub few : ltb (kids d (drop s xs)) k ≡ ltb (kids d (drop i xs)) (k - passed)
  pub before : s + nodes_before d k (drop s xs) ≡ i + nodes_before d (k - passed) (drop i xs)
  pub low : passed ≤ k

-- so the place is there, or it isn't
pub place_told : (d k : ℕ) (nodes : List Node) (b : Bool) → ltb (kids d nodes) k ≡ b → not b ≡ not (ltb (width (read d (rows_of nodes))) k)
place_told d k nodes b e = ap not (sym e ∙ ap (λ m. ltb m k) (kids_is d nodes))

-- what is told of a place that is there
pub told_there : (few : Bool) → true ≡ not few → few ≡ false
told_there true e = cc
told_there false e = refl

-- and of one that isn't
pub told_lacking : (few : Bool) → false ≡ not few → few ≡ true
told_lacking true e = refl
told_lacking false e = cc

-- the last of a number of children is counted
pub counted_last : (m d k passed one : ℕ) → one ≡ from_bool (eqb m d) → passed ≤ k → k < passed + one → (m ≡ d) × (k - passed ≡ 0)
counted_last m d k passed one e low h = go (eqb m d) refl e
  where
    go : (b : Bool) → eqb m d ≡ b → one ≡ from_bool b → (m ≡ d) × (k - passed ≡ 0)
    go true t e = (grind (arith, nat_tests), omega arith)
    go false t e = absurd (omega arith)

-- none is missing
pub none_missing : (k passed : ℕ) → passed ≡ k → ltb 0 (k - passed) ≡ false
none_missing k passed e = grind (arith, nat_tests)

-- some are missing
pub some_missing : (k passed : ℕ) → passed ≤ k → passed ≢ k → ltb 0 (k - passed) ≡ true
some_missing k passed l e = grind (arith, nat_tests)

module _ (d k s : ℕ) (xs : List Node) (i passed : ℕ) (so : Reached d k s xs i passed) where
  -- all nodes are passed
  pub at_end : length xs ≤ i → ltb (kids d (drop s xs)) k ≡ ltb 0 (k - passed)
  at_end h = so.few ∙ ap (λ ns. ltb (kids d ns) (k - passed)) (let none : drop i xs ≡ [] = grind (arith, common_steps) in none)

  module _ (n : Node) (h : i < length xs) (is : n ≡ get_or xs i n) where
    here : drop i xs ≡ n ∷ drop (i + 1) xs
    here = next_node xs i n h ∙ ap (λ m. m ∷ drop (i + 1) xs) (sym is)

    few_here : ltb (kids d (drop s xs)) k ≡ ltb (kids d (n ∷ drop (i + 1) xs)) (k - passed)
    few_here = so.few ∙ ap (λ ns. ltb (kids d ns) (k - passed)) here

    before_here : s + nodes_before d k (drop s xs) ≡ i + nodes_before d (k - passed) (n ∷ drop (i + 1) xs)
    before_here = so.before ∙ ap (λ ns. i + nodes_before d (k - passed) ns) here

    -- a node above ends the group
    pub at_above : n.depth < d → ltb (kids d (drop s xs)) k ≡ ltb 0 (k - passed)
    at_above above = few_here ∙ ap (λ m. ltb m (k - passed)) (taken (ltb n.depth d) _ _ (grind (arith, nat_tests)))

    -- the place is that of this child
    pub at_child : n.depth ≡ d → k - passed ≡ 0 → ltb (kids d (drop s xs)) k ≡ false
    at_child level z = few_here ∙ (let f : ltb (kids d (n ∷ drop (i + 1) xs)) (k - passed) ≡ false = grind (arith, nat_tests) in f)

    -- the node is passed
    pub past : (one : ℕ) → one ≡ from_bool (eqb n.depth d) → d ≤ n.depth → passed + one ≤ k → Reached d k s xs (i + 1) (passed + one)
    past one e low fits = go (eqb n.depth d) refl e
      where
        not_above : ltb n.depth d ≡ false
        not_above = grind (arith, nat_tests)

        less : (m : ℕ) → passed + 1 ≤ k → ltb (suc m) (k - passed) ≡ ltb m (k - (passed + 1))
        less m h = grind (arith, nat_tests)

        go : (b : Bool) → eqb n.depth d ≡ b → one ≡ from_bool b → Reached d k s xs (i + 1) (passed + one)
        go true t e =
            let first : k - passed ≢ 0 = omega arith in
            let pred : k - passed - 1 ≡ k - (passed + 1) = omega arith in
            subst (Reached d k s xs (i + 1)) (ap (λ m. passed + m) (sym e)) (record {
              few = few_here ∙ ap (λ m. ltb m (k - passed)) (kept (ltb n.depth d) _ _ not_above ∙ taken (eqb n.depth d) _ _ t) ∙ less (kids d (drop (i + 1) xs)) (omega arith);
              before = before_here ∙ ap (λ m. i + m) (kept (ltb n.depth d) _ _ not_above ∙ taken (eqb n.depth d) _ _ t ∙ kept (eqb (k - passed) 0) _ _ (grind (arith, nat_tests)) ∙ ap (λ m. suc (nodes_before d m (drop (i + 1) xs))) pred) ∙ omega arith;
              low = omega arith;
            })
        go false t e =
            let same : k - passed ≡ k - (passed + 0) = omega arith in
            subst (Reached d k s xs (i + 1)) (ap (λ m. passed + m) (sym e)) (record {
              few = few_here ∙ ap (λ m. ltb m (k - passed)) (kept (ltb n.depth d) _ _ not_above ∙ kept (eqb n.depth d) _ _ t) ∙ ap (ltb (kids d (drop (i + 1) xs))) same;
              before = before_here ∙ ap (λ m. i + m) (kept (ltb n.depth d) _ _ not_above ∙ kept (eqb n.depth d) _ _ t ∙ ap (λ m. suc (nodes_before d m (drop (i + 1) xs))) same) ∙ omega arith;
              low = omega arith;
            })
