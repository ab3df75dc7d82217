-- The nodes before a part, those of the part, and those after it.
use Rattle.std.proofs.Common.{◌≡◌, ℕ, suc, ◌+◌, ◌-◌, ◌<◌, Bool, true, false, cond, Some, None, List, [], ◌∷◌, ◌++◌, length, get_or, take, drop, refl, sym, ap, ◌∙◌, arith, eqb, ltb}
use Rattle.std.specs.List.{take_while}
use Rattle.std.proofs.lemmas.Grind.{common_steps}
use Rattle.std.proofs.lemmas.Bool.Decides.{nat_tests}
use Rattle.geom_core.proofs.Tests.{taken}
use Rattle.tree_core.specs.declared.node.Node.{Node}
use Rattle.tree_core.specs.Nodes.{IsKept}
use Rattle.tree_core.proofs.Passes.{cut, deeper, deeper_is, part, next_node, whole_rest}
use Rattle.tree_core.proofs.Once.{times_in, none_after}

-- so many are deeper
deeper_take : (d : ℕ) (xs : List Node) → take (length (deeper d xs)) xs ≡ deeper d xs
deeper_take d [] = refl
deeper_take d (x ∷ xs) = go (ltb d x.depth) (deeper_take d xs)
  where
    go : (b : Bool) → take (length (deeper d xs)) xs ≡ deeper d xs → take (length (cond b (x ∷ deeper d xs) [])) (x ∷ xs) ≡ cond b (x ∷ deeper d xs) []
    go true e = ap (λ ys. x ∷ ys) e
    go false e = refl

-- nothing is left out where no node has the id
cut_none : (q : ℕ) (xs : List Node) → times_in q xs ≡ 0 → cut q None xs ≡ xs
cut_none q [] h = refl
cut_none q (x ∷ xs) h = go (eqb x.id q) h (λ i. cut_none q xs i)
  where
    go : (b : Bool) → cond {A = ℕ} b 1 0 + times_in q xs ≡ 0 → (times_in q xs ≡ 0 → cut q None xs ≡ xs) → cond b (cut q (Some x.depth) xs) (x ∷ cut q None xs) ≡ x ∷ xs
    go true h r = absurd (omega arith)
    go false h r = ap (λ ys. x ∷ ys) (r (omega arith))

-- after the node the deeper ones are left out
cut_rest : (q d : ℕ) (xs : List Node) → times_in q xs ≡ 0 → cut q (Some d) xs ≡ drop (length (deeper d xs)) xs
cut_rest q d [] h = refl
cut_rest q d (x ∷ xs) h = go (ltb d x.depth) (eqb x.id q) h (λ i. cut_rest q d xs i)
  where
    go : (t b : Bool) → cond {A = ℕ} b 1 0 + times_in q xs ≡ 0 → (times_in q xs ≡ 0 → cut q (Some d) xs ≡ drop (length (deeper d xs)) xs)
        → cond t (cut q (Some d) xs) (cond b (cut q (Some x.depth) xs) (x ∷ cut q None xs)) ≡ drop (length (cond t (x ∷ deeper d xs) [])) (x ∷ xs)
    go t true h r = absurd (omega arith)
    go true false h r = r (omega arith)
    go false false h r = ap (λ ys. x ∷ ys) (cut_none q xs (omega arith))

module _ (q : ℕ) (nodes : List Node) (i : ℕ) (d : Node) (m : ℕ) (h : i < length nodes) (e : (get_or nodes i d).id ≡ q)
    (many : m ≡ length (take_while (λ n. ltb (get_or nodes i d).depth n.depth) (take (length nodes - (i + 1)) (drop (i + 1) nodes)))) where
  abbrev n : Node
  n = get_or nodes i d

  here : eqb n.id q ≡ true
  here = grind (arith, nat_tests)

  so_many : m ≡ length (deeper n.depth (drop (i + 1) nodes))
  so_many = many ∙ ap (λ xs. length (take_while (λ k. ltb n.depth k.depth) xs)) (whole_rest nodes (i + 1)) ∙ ap length (sym (deeper_is n.depth (drop (i + 1) nodes)))

  -- the part
  pub part_here : part q nodes ≡ part q (drop i nodes) → take ((i + 1 + m) - i) (drop i nodes) ≡ part q nodes
  part_here so = ap (λ j. take j (drop i nodes)) count ∙ ap (take (suc m)) (next_node nodes i d h) ∙ ap (λ j. n ∷ take j (drop (i + 1) nodes)) so_many ∙ ap (λ xs. n ∷ xs) (deeper_take n.depth (drop (i + 1) nodes))
      ∙ sym (so ∙ ap (part q) (next_node nodes i d h) ∙ taken (eqb n.id q) _ _ here)
    where
      count : (i + 1 + m) - i ≡ suc m
      count = omega arith

  -- the others
  pub left_here : IsKept nodes → cut q None nodes ≡ take i nodes ++ cut q None (drop i nodes) → take i nodes ++ drop (i + 1 + m) nodes ≡ cut q None nodes
  left_here k so = sym (so ∙ ap (λ xs. take i nodes ++ xs) (ap (cut q None) (next_node nodes i d h) ∙ taken (eqb n.id q) _ _ here ∙ cut_rest q n.depth (drop (i + 1) nodes) (none_after q nodes i d k h e)
      ∙ ap (λ j. drop j (drop (i + 1) nodes)) (sym so_many) ∙ rest))
    where
      rest : drop m (drop (i + 1) nodes) ≡ drop (i + 1 + m) nodes
      rest = grind (arith, common_steps)
