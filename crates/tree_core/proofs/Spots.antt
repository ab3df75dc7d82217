-- Where a new node goes among the nodes.
use Rattle.std.proofs.Common.{◌≡◌, ℕ, suc, zero, ◌+◌, ◌-◌, ◌<◌, ◌≤◌, true, false, cond, List, [], ◌∷◌, ◌++◌, map, length, take, drop, refl, sym, ap, ◌∙◌, arith, eqb, ltb, append_assoc, length-append, length-drop}
use Rattle.std.proofs.lemmas.List.{length-map}
use Rattle.std.proofs.Math.Seq.{take-append_seam, drop-append_seam}
use Rattle.std.proofs.lemmas.Bool.Decides.{nat_tests}
use Rattle.geom_core.proofs.Tests.{taken, kept, equal_test, same_choice}
use Rattle.doc_model.specs.Forest.{none, paint, group, depth, join, lower, upper, inserted}
use Rattle.doc_model.specs.Flat.{flat, EndsAt}
use Rattle.doc_model.specs.Changes.{takes, set_in}
use Rattle.tree_core.specs.declared.node.Node.{Node}
use Rattle.tree_core.specs.Nodes.{Tree, row_of, tree_of, IsKept, start_in, nodes_before, at_place}
use Rattle.tree_core.proofs.Kept.{Rows, flat_join, join_split}
use Rattle.tree_core.proofs.Passes.{nodes_after}
use Rattle.tree_core.proofs.Starts.{start_low}
use Rattle.tree_core.proofs.Between.{Between, between}

-- where a new node goes
abbrev row_spot : ℕ → ℕ → Rows → ℕ
row_spot d k [] = 0
row_spot d k (r ∷ rs) = cond (ltb r.depth d) 0 (cond (eqb r.depth d) (cond (eqb k 0) 0 (suc (row_spot d (k - 1) rs))) (suc (row_spot d k rs)))

-- the test of a row at the depth
not_above : (d : ℕ) → ltb d d ≡ false
not_above d = grind (arith, nat_tests)

-- the test of a deeper row
not_less : (d j : ℕ) → d < j → ltb j d ≡ false
not_less d j h = grind (arith, nat_tests)

-- so is this one
not_same : (d j : ℕ) → d < j → eqb j d ≡ false
not_same d j h = grind (arith, nat_tests)

-- the test of a row above
less : (d j : ℕ) → j < d → ltb j d ≡ true
less d j h = grind (arith, nat_tests)

-- a row above ends the count
spot_ends : (e k : ℕ) (more : Rows) → EndsAt e more → row_spot e k more ≡ 0
spot_ends e k [] h = refl
spot_ends e k (r ∷ rs) h = taken (ltb r.depth e) _ _ (less e r.depth h)

-- deeper rows are counted
spot_deeper : (d k j : ℕ) (f : Tree) (rows : Rows) → d < j → row_spot d k (flat j f ++ rows) ≡ length (flat j f) + row_spot d k rows
spot_deeper d k j none rows h = omega arith
spot_deeper d k j (paint id look x rest) rows h =
    let i : row_spot d k (flat j rest ++ rows) ≡ length (flat j rest) + row_spot d k rows = spot_deeper d k j rest rows h in
    kept (ltb j d) _ _ (not_less d j h) ∙ kept (eqb j d) _ _ (not_same d j h) ∙ omega arith
spot_deeper d k j (group id look nodes rest) rows h =
    let a : row_spot d k (flat (suc j) nodes ++ (flat j rest ++ rows)) ≡ length (flat (suc j) nodes) + row_spot d k (flat j rest ++ rows) = spot_deeper d k (suc j) nodes (flat j rest ++ rows) (omega arith) in
    let b : row_spot d k (flat j rest ++ rows) ≡ length (flat j rest) + row_spot d k rows = spot_deeper d k j rest rows h in
    let c : length (flat (suc j) nodes ++ flat j rest) ≡ length (flat (suc j) nodes) + length (flat j rest) = length-append (flat (suc j) nodes) (flat j rest) in
    kept (ltb j d) _ _ (not_less d j h) ∙ kept (eqb j d) _ _ (not_same d j h) ∙ ap (λ rs. suc (row_spot d k rs)) (append_assoc (flat (suc j) nodes) (flat j rest) rows) ∙ omega arith

-- one less
pred_is : (k : ℕ) → suc k - 1 ≡ k
pred_is k = omega arith

-- a test that fails
not_zero : (k : ℕ) → eqb (suc k) 0 ≡ false
not_zero k = grind (arith, nat_tests)

-- so many rows have the nodes below the place
spot_is : (e k : ℕ) (g : Tree) (more : Rows) → EndsAt e more → row_spot e k (flat e g ++ more) ≡ length (flat e (lower k g))
spot_is e zero none more h = spot_ends e zero more h
spot_is e (suc k) none more h = spot_ends e (suc k) more h
spot_is e zero (paint id look x rest) more h = kept (ltb e e) _ _ (not_above e) ∙ taken (eqb e e) _ _ (equal_test e)
spot_is e zero (group id look nodes rest) more h = kept (ltb e e) _ _ (not_above e) ∙ taken (eqb e e) _ _ (equal_test e)
spot_is e (suc k) (paint id look x rest) more h = kept (ltb e e) _ _ (not_above e) ∙ taken (eqb e e) _ _ (equal_test e) ∙ kept (eqb (suc k) 0) _ _ (not_zero k)
    ∙ ap (λ n. suc (row_spot e n (flat e rest ++ more))) (pred_is k) ∙ ap suc (spot_is e k rest more h)
spot_is e (suc k) (group id look nodes rest) more h =
    let a : row_spot e k (flat (suc e) nodes ++ (flat e rest ++ more)) ≡ length (flat (suc e) nodes) + row_spot e k (flat e rest ++ more) = spot_deeper e k (suc e) nodes (flat e rest ++ more) (omega arith) in
    let b : row_spot e k (flat e rest ++ more) ≡ length (flat e (lower k rest)) = spot_is e k rest more h in
    let c : length (flat (suc e) nodes ++ flat e (lower k rest)) ≡ length (flat (suc e) nodes) + length (flat e (lower k rest)) = length-append (flat (suc e) nodes) (flat e (lower k rest)) in
    kept (ltb e e) _ _ (not_above e) ∙ taken (eqb e e) _ _ (equal_test e) ∙ kept (eqb (suc k) 0) _ _ (not_zero k)
    ∙ ap (λ n. suc (row_spot e n ((flat (suc e) nodes ++ flat e rest) ++ more))) (pred_is k) ∙ ap (λ rs. suc (row_spot e k rs)) (append_assoc (flat (suc e) nodes) (flat e rest) more) ∙ omega arith

-- the equal_test of nodes
spot_rows : (d k : ℕ) (nodes : List Node) → nodes_before d k nodes ≡ row_spot d k (map row_of nodes)
spot_rows d k [] = refl
spot_rows d k (n ∷ ns) = same_choice (ltb n.depth d) refl (same_choice (eqb n.depth d) (same_choice (eqb k 0) refl (ap suc (spot_rows d (k - 1) ns))) (ap suc (spot_rows d k ns)))

-- rows set in at a seam
set_seam : (rows front back new : Rows) (i : ℕ) → rows ≡ front ++ back → i ≡ length front → take i rows ++ (new ++ drop i rows) ≡ front ++ (new ++ back)
set_seam rows front back new i e h = ap (λ rs. take i rs ++ (new ++ drop i rs)) e ∙ ap (λ n. take n (front ++ back) ++ (new ++ drop n (front ++ back))) h
    ∙ ap (λ xs. xs ++ (new ++ drop (length front) (front ++ back))) (take-append_seam front back) ∙ ap (λ xs. front ++ (new ++ xs)) (drop-append_seam front back)

-- rows of new nodes, set in at their place, are those of the tree with the new nodes
pub set_rows : (q place : ℕ) (new : Tree) (nodes : List Node) → IsKept nodes → takes q (tree_of nodes) ≡ true
    → take (at_place q place nodes) (map row_of nodes) ++ (flat (depth q (tree_of nodes)) new ++ drop (at_place q place nodes) (map row_of nodes)) ≡ flat 0 (set_in q place new (tree_of nodes))
set_rows q place new nodes k t = set_seam (map row_of nodes) (b.front ++ low) (high ++ b.more) (flat e new) (at_place q place nodes) split index ∙ joined ∙ sym (b.changes place new)
  where
    b : Between q nodes
    b = between q nodes k t

    e : ℕ
    e = depth q (tree_of nodes)

    low : Rows
    low = flat e (lower place b.held)

    high : Rows
    high = flat e (upper place b.held)

    halves : flat e b.held ≡ low ++ high
    halves = ap (flat e) (sym (join_split place b.held)) ∙ flat_join e (lower place b.held) (upper place b.held)

    split : map row_of nodes ≡ (b.front ++ low) ++ (high ++ b.more)
    split = b.is ∙ ap (λ x. b.front ++ (x ++ b.more)) halves ∙ ap (λ x. b.front ++ x) (append_assoc low high b.more) ∙ sym (append_assoc b.front low (high ++ b.more))

    index : at_place q place nodes ≡ length (b.front ++ low)
    index =
        let whole : length (map row_of nodes) ≡ length b.front + length (flat e b.held ++ b.more) = ap length b.is ∙ length-append b.front (flat e b.held ++ b.more) in
        let left : length (map row_of (nodes_after q nodes)) ≡ length (flat e b.held ++ b.more) = ap length b.rest in
        let ln : length (map row_of nodes) ≡ length nodes = length-map nodes row_of in
        let la : length (map row_of (nodes_after q nodes)) ≡ length (nodes_after q nodes) = length-map (nodes_after q nodes) row_of in
        let s : nodes_before e place (nodes_after q nodes) ≡ length low = spot_rows e place (nodes_after q nodes) ∙ ap (row_spot e place) b.rest ∙ spot_is e place b.held b.more b.ends in
        let after : length (nodes_after q nodes) ≡ length nodes - start_in q nodes = length-drop (start_in q nodes) nodes in
        let within : start_in q nodes ≤ length nodes = start_low q nodes k t in
        let l : length (b.front ++ low) ≡ length b.front + length low = length-append b.front low in
        omega arith

    joined : (b.front ++ low) ++ (flat e new ++ (high ++ b.more)) ≡ b.front ++ (flat e (inserted place new b.held) ++ b.more)
    joined = append_assoc b.front low (flat e new ++ (high ++ b.more)) ∙ ap (λ x. b.front ++ x)
        (ap (λ x. low ++ x) (sym (append_assoc (flat e new) high b.more)) ∙ sym (append_assoc low (flat e new ++ high) b.more)
        ∙ ap (λ x. x ++ b.more) (ap (λ x. low ++ x) (sym (flat_join e new (upper place b.held))) ∙ sym (flat_join e (lower place b.held) (join new (upper place b.held)))))
