-- What a move makes of the tree.
use Rattle.std.proofs.Common.{◌≡◌, ℕ, suc, ◌+◌, ◌-◌, ◌≤◌, true, false, None, Ok, List, ◌++◌, map, take, drop, refl, sym, ap, ◌∙◌, arith}
use Rattle.std.proofs.lemmas.List.{map-append, take-map, drop-map}
use Rattle.doc_model.specs.declared.tree.Change.TheVariants as change
use Rattle.doc_model.specs.Forest.{has, width, height, depth, only, without}
use Rattle.doc_model.specs.Flat.{flat, read}
use Rattle.doc_model.specs.Changes.{takes, child_count, set_in, no_place, answer}
use Rattle.doc_model.proofs.Weights.{tree_distinct}
use Rattle.doc_model.proofs.TreeChanges.{tree_changed}
use Rattle.doc_model.proofs.Heights.{height_changed, depth_without}
use Rattle.tree_core.specs.declared.node.Node.{Node}
use Rattle.tree_core.specs.Nodes.{Tree, rows_of, row_of, tree_of, IsKept, start_in, nodes_before, at_place, moved_node}
use Rattle.tree_core.proofs.Kept.{kept_from}
use Rattle.tree_core.proofs.Kids.{children_now}
use Rattle.tree_core.proofs.Depths.{depth_some}
use Rattle.tree_core.proofs.Spots.{set_rows}
use Rattle.tree_core.proofs.Moved.{takes_without, relevel_row, relevel_rows, relevel_flat}

-- nothing more
zero_more : (k : ℕ) → k + 0 ≡ k
zero_more k = omega arith

-- one less
minus : (m n : ℕ) → suc m ≡ n → n - 1 ≡ m
minus m n e = omega arith

module _ (q p place : ℕ) (nodes : List Node) (k : IsKept nodes) (g : takes p (tree_of nodes) ≡ true) (out : has p (only q (tree_of nodes)) ≡ false)
    (left : List Node) (kept_left : IsKept left) (tree_left : tree_of left ≡ without q (tree_of nodes)) where
  abbrev t : Tree
  t = tree_of nodes

  depth_left : depth p t ≡ depth p (tree_of left)
  depth_left = sym (ap (depth p) tree_left ∙ depth_without q p t (tree_distinct t k.once) out)

  takes_left : takes p (tree_of left) ≡ true
  takes_left = ap (takes p) tree_left ∙ takes_without q p nodes t k refl out ∙ g

  -- so many children are left beside the node
  pub others_now : (d start : ℕ) → d ≡ depth p t → start ≡ start_in p left → width (read d (rows_of (drop start left))) ≡ child_count p (without q t)
  others_now d start e i = children_now p left (tree_of left) kept_left refl takes_left d (drop start left) (e ∙ depth_left) (ap (λ n. drop n left) i) ∙ ap (child_count p) tree_left

  -- and here is the place among them
  pub at_now : (d start at : ℕ) → d ≡ depth p t → start ≡ start_in p left → at ≡ start + nodes_before d place (drop start left) → at ≡ at_place p place left
  at_now d start at e i h = h ∙ ap (λ n. n + nodes_before d place (drop n left)) i ∙ ap (λ n. start_in p left + nodes_before n place (drop (start_in p left) left)) (e ∙ depth_left)

  module _ (there : has q t ≡ true) (low : depth p t + height (only q t) ≤ 16) (moved : List Node) (moved_is : rows_of moved ≡ flat (depth q t - 1) (only q t)) where
    s : (k : ℕ) × (suc k ≡ depth q t)
    s = depth_some q t there

    part_rows : rows_of moved ≡ flat s.0 (only q t)
    part_rows = moved_is ∙ ap (λ n. flat n (only q t)) (minus s.0 (depth q t) s.1)

    fits : depth p t + 0 + height (only q t) ≤ 255
    fits = let l : depth p t + height (only q t) ≤ 16 = low in omega arith

    moved_rows : (from to : ℕ) → from ≡ depth q t → to ≡ depth p t → map row_of (map (moved_node from to) moved) ≡ flat (depth p (tree_of left)) (only q t)
    moved_rows from to e h = relevel_rows from to moved ∙ ap (map (relevel_row from to)) (part_rows)
        ∙ ap (λ (n : ℕ). map (relevel_row n to) (flat s.0 (only q t))) (e ∙ sym s.1) ∙ ap (λ (n : ℕ). map (relevel_row (suc s.0) n) (flat s.0 (only q t))) h
        ∙ ap (λ n. map (relevel_row (suc s.0) (depth p t)) (flat n (only q t))) (sym (zero_more s.0)) ∙ relevel_flat s.0 (depth p t) 0 (only q t) fits
        ∙ ap (λ n. flat n (only q t)) (zero_more (depth p t) ∙ depth_left)

    -- the rows once the part is set in there
    pub placed_rows : (from to at : ℕ) → from ≡ depth q t → to ≡ depth p t → at ≡ at_place p place left → rows_of (take at left ++ (map (moved_node from to) moved ++ drop at left)) ≡ flat 0 (set_in p place (only q t) (without q t))
    placed_rows from to at e h i =
        map-append row_of (take at left) (map (moved_node from to) moved ++ drop at left)
        ∙ ap (λ rs. map row_of (take at left) ++ rs) (map-append row_of (map (moved_node from to) moved) (drop at left))
        ∙ ap (λ rs. rs ++ (map row_of (map (moved_node from to) moved) ++ map row_of (drop at left))) (sym (take-map row_of at left))
        ∙ ap (λ rs. take at (map row_of left) ++ (map row_of (map (moved_node from to) moved) ++ rs)) (sym (drop-map row_of at left))
        ∙ ap (λ rs. take at (map row_of left) ++ (rs ++ drop at (map row_of left))) (moved_rows from to e h)
        ∙ ap (λ n. take n (map row_of left) ++ (flat (depth p (tree_of left)) (only q t) ++ drop n (map row_of left))) i
        ∙ set_rows p place (only q t) left kept_left takes_left
        ∙ ap (λ x. flat 0 (set_in p place (only q t) x)) tree_left

-- what a move leaves is a tree of the limits
pub placed_kept : (q p place : ℕ) (nodes items : List Node) → IsKept nodes → no_place q p place (tree_of nodes) ≡ None → rows_of items ≡ flat 0 (set_in p place (only q (tree_of nodes)) (without q (tree_of nodes))) → IsKept items
placed_kept q p place nodes items k ok rows = kept_from items (set_in p place (only q (tree_of nodes)) (without q (tree_of nodes))) rows (tree_changed (λ _. tt) (change.Place q p place) (tree_of nodes) _ changed_ok k.once) (height_changed (λ _. tt) (change.Place q p place) (tree_of nodes) _ changed_ok k.once k.low)
  where
    changed_ok : answer (no_place q p place (tree_of nodes)) (set_in p place (only q (tree_of nodes)) (without q (tree_of nodes))) ≡ Ok (set_in p place (only q (tree_of nodes)) (without q (tree_of nodes)))
    changed_ok = ap (λ o. answer o (set_in p place (only q (tree_of nodes)) (without q (tree_of nodes)))) ok
