-- The node and those below it taken out.
use Rattle.std.proofs.Common.{◌≡◌, ℕ, ◌≤◌, Bool, true, false, cond, Option, Some, None, List, [], ◌∷◌, map, refl, sym, ap, ◌∙◌, arith, eqb, ltb, append-nil}
use Rattle.geom_core.proofs.Tests.{taken, kept}
use Rattle.doc_model.specs.Forest.{height, without}
use Rattle.doc_model.specs.Flat.{flat}
use Rattle.doc_model.proofs.FlatLaws.{removed, flat_without}
use Rattle.doc_model.proofs.TreeChanges.{tree_without}
use Rattle.doc_model.proofs.Heights.{height_without}
use Rattle.tree_core.specs.declared.node.Node.{Node}
use Rattle.tree_core.specs.Nodes.{row_of, tree_of, IsKept}
use Rattle.tree_core.proofs.Choices.{turned}
use Rattle.tree_core.proofs.Kept.{tree_from, kept_from}
use Rattle.tree_core.proofs.Passes.{cut}

-- removal
cut_rows : (q : ℕ) (skip : Option ℕ) (nodes : List Node) → map row_of (cut q skip nodes) ≡ removed q skip (map row_of nodes)
cut_rows q skip [] = refl
cut_rows q skip (n ∷ ns) = by_skip skip (λ s. cut_rows q s ns)
  where
    below : (s : Option ℕ) → ((s : Option ℕ) → map row_of (cut q s ns) ≡ removed q s (map row_of ns)) → (b : Bool) → eqb n.id q ≡ b → map row_of (cond b (cut q (Some n.depth) ns) (n ∷ cut q None ns)) ≡ cond (eqb q n.id) (removed q (Some n.depth) (map row_of ns)) (row_of n ∷ removed q None (map row_of ns))
    below s ih true e = ih (Some n.depth) ∙ sym (taken (eqb q n.id) _ _ (turned q n.id ∙ e))
    below s ih false e = ap (λ rs. row_of n ∷ rs) (ih None) ∙ sym (kept (eqb q n.id) _ _ (turned q n.id ∙ e))

    deeper : (k : ℕ) → ((s : Option ℕ) → map row_of (cut q s ns) ≡ removed q s (map row_of ns)) → (b : Bool) → map row_of (cond b (cut q (Some k) ns) (cond (eqb n.id q) (cut q (Some n.depth) ns) (n ∷ cut q None ns)))
        ≡ cond b (removed q (Some k) (map row_of ns)) (cond (eqb q n.id) (removed q (Some n.depth) (map row_of ns)) (row_of n ∷ removed q None (map row_of ns)))
    deeper k ih true = ih (Some k)
    deeper k ih false = below (Some k) ih (eqb n.id q) refl

    by_skip : (s : Option ℕ) → ((s : Option ℕ) → map row_of (cut q s ns) ≡ removed q s (map row_of ns)) → map row_of (cut q s (n ∷ ns)) ≡ removed q s (map row_of (n ∷ ns))
    by_skip None ih = below None ih (eqb n.id q) refl
    by_skip (Some k) ih = deeper k ih (ltb k n.depth)

-- they are those of the tree without the node
cut_flat : (q : ℕ) (nodes : List Node) → IsKept nodes → map row_of (cut q None nodes) ≡ flat 0 (without q (tree_of nodes))
cut_flat q nodes k = cut_rows q None nodes ∙ ap (removed q None) (k.whole ∙ sym (append-nil (flat 0 (tree_of nodes)))) ∙ flat_without q 0 (tree_of nodes) [] tt ∙ append-nil (flat 0 (without q (tree_of nodes)))

-- what is left stands for the tree without them
pub tree_cut : (q : ℕ) (nodes : List Node) → IsKept nodes → tree_of (cut q None nodes) ≡ without q (tree_of nodes)
tree_cut q nodes k = tree_from (cut q None nodes) (without q (tree_of nodes)) (cut_flat q nodes k)

-- and is a tree of the limits
pub kept_cut : (q : ℕ) (nodes : List Node) → IsKept nodes → IsKept (cut q None nodes)
kept_cut q nodes k =
    let less : height (without q (tree_of nodes)) ≤ height (tree_of nodes) = height_without q (tree_of nodes) in
    let low : height (tree_of nodes) ≤ 16 = k.low in
    kept_from (cut q None nodes) (without q (tree_of nodes)) (cut_flat q nodes k) (tree_without q (tree_of nodes) k.once) (omega arith)
