-- Where the nodes in a group begin.
use Rattle.std.proofs.Common.{◌≡◌, ◌≢◌, ℕ, suc, ◌+◌, ◌<◌, ◌≤◌, Bool, true, false, not, cond, Some, is_some, List, [], ◌∷◌, ◌++◌, length, get_or, take, drop, refl, ap, ◌∙◌, arith, eqb, inl, inr}
use Rattle.std.specs.List.{position_or_len}
use Rattle.std.proofs.lemmas.Grind.{common_steps}
use Rattle.std.proofs.lemmas.Bool.Decides.{nat_tests}
use Rattle.geom_core.proofs.Tests.{kept, or_cases}
use Rattle.doc_model.specs.Forest.{is_group}
use Rattle.doc_model.specs.Changes.{takes}
use Rattle.doc_model.proofs.Paths.{group_has}
use Rattle.tree_core.specs.declared.node.Node.{Node}
use Rattle.tree_core.specs.Nodes.{tree_of, start_in, IsKept}
use Rattle.tree_core.proofs.Passes.{first_with}
use Rattle.tree_core.proofs.Finding.{found_has}
use Rattle.tree_core.proofs.Once.{times_in, split_at, none_before}

-- how many nodes come before the first with the id q
abbrev pub place_of : ℕ → List Node → ℕ
place_of q nodes = position_or_len (λ n. eqb n.id q) nodes

-- one more
one_more : (m : ℕ) → 1 + m ≡ suc m
one_more m = omega arith

-- a test that fails
not_root : (q : ℕ) → q ≢ 0 → eqb q 0 ≡ false
not_root q e = grind (arith, nat_tests)

-- what a test that fails tells
pub other : (q : ℕ) → eqb q 0 ≡ false → q ≢ 0
other q e = grind (arith, nat_tests)

-- the place of the node at a seam
place_split : (q : ℕ) (front : List Node) (n : Node) (back : List Node) → times_in q front ≡ 0 → n.id ≡ q → place_of q (front ++ (n ∷ back)) ≡ length front
place_split q [] n back h e = kept (not (eqb n.id q)) _ _ (ap not (let t : eqb n.id q ≡ true = grind (arith, nat_tests) in t))
place_split q (m ∷ ms) n back h e = go (eqb m.id q) h (λ i. place_split q ms n back i e)
  where
    go : (b : Bool) → cond b 1 0 + times_in q ms ≡ 0 → (times_in q ms ≡ 0 → place_of q (ms ++ (n ∷ back)) ≡ length ms) → cond (not b) (1 + place_of q (ms ++ (n ∷ back))) 0 ≡ suc (length ms)
    go true h r = absurd (omega arith)
    go false h r = one_more (place_of q (ms ++ (n ∷ back))) ∙ ap suc (r (omega arith))

-- right after the node with the id
pub start_at : (q : ℕ) (nodes : List Node) (i : ℕ) (d : Node) → IsKept nodes → q ≢ 0 → i < length nodes → (get_or nodes i d).id ≡ q → start_in q nodes ≡ suc i
start_at q nodes i d k other h e =
    kept (eqb q 0) _ _ (not_root q other) ∙ ap (λ xs. suc (place_of q xs)) (split_at nodes i d h) ∙ ap suc (place_split q (take i nodes) (get_or nodes i d) (drop (i + 1) nodes) (none_before q nodes i d k h e) e ∙ many)
  where
    many : length (take i nodes) ≡ i
    many = grind (arith, common_steps)

-- a node with the id q stands right before the nodes in it
pub record Stands (q : ℕ) (nodes : List Node) : Type 0 where
  pub at : ℕ
  pub low : at < length nodes
  pub id : (d : Node) → (get_or nodes at d).id ≡ q
  pub start : suc (place_of q nodes) ≡ suc at

-- so does the one that is found
pub stands : (q : ℕ) (nodes : List Node) → is_some (first_with q nodes) ≡ true → Stands q nodes
stands q [] h = absurd (let t : false ≡ true = h in cc)
stands q (n ∷ ns) h = go (eqb n.id q) refl h (λ e. stands q ns e)
  where
    go : (b : Bool) → eqb n.id q ≡ b → is_some (cond b (Some n) (first_with q ns)) ≡ true → (is_some (first_with q ns) ≡ true → Stands q ns) → Stands q (n ∷ ns)
    go true e h r = record { at = 0; low = omega arith; id = λ d. grind (arith, nat_tests); start = ap (λ b. suc (cond (not b) (1 + place_of q ns) 0)) e }
    go false e h r =
        let s : Stands q ns = r h in
        record { at = suc s.at; low = (let l : s.at < length ns = s.low in omega arith); id = s.id; start = ap (λ b. suc (cond (not b) (1 + place_of q ns) 0)) e ∙ ap suc (one_more (place_of q ns) ∙ s.start) }

-- a group that isn't the root is found
pub group_stands : (q : ℕ) (nodes : List Node) → IsKept nodes → q ≢ 0 → takes q (tree_of nodes) ≡ true → Stands q nodes
group_stands q nodes k other t = stands q nodes (found_has q nodes k ∙ elim (or_cases (eqb q 0) (is_group q (tree_of nodes)) t) [ inl i ↦ absurd (let r : eqb q 0 ≡ false = not_root q other in cc) | inr i ↦ group_has q (tree_of nodes) i ])

-- the nodes of a group lie within
pub start_low : (q : ℕ) (nodes : List Node) → IsKept nodes → takes q (tree_of nodes) ≡ true → start_in q nodes ≤ length nodes
start_low q nodes k t = go (eqb q 0) refl
  where
    go : (b : Bool) → eqb q 0 ≡ b → cond b 0 (suc (place_of q nodes)) ≤ length nodes
    go true e = omega arith
    go false e = let s : Stands q nodes = group_stands q nodes k (other q e) t in let l : s.at < length nodes = s.low in let i : suc (place_of q nodes) ≡ suc s.at = s.start in omega arith
