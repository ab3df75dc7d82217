-- Why a node with those below it can't be moved, or where it goes.
use Rattle.std.proofs.Common.{◌≡◌, ◌≢◌, ℕ, ◌+◌, ◌-◌, ◌<◌, ◌≤◌, suc, true, false, cond, Some, None, List, ◌∷◌, ◌++◌, map, length, get_or, take, drop, sym, ap, ◌∙◌, arith, ltb}
use Rattle.std.specs.Prelude.{slice_range}
use Rattle.std.specs.List.{remove_range}
use Rattle.doc_model.specs.declared.tree.TreeFault.TheVariants.{NoNode, NotGroup, IntoItself, TooDeep, BadPlace}
use Rattle.doc_model.specs.Forest.{has, width, height, depth, only, without}
use Rattle.doc_model.specs.Flat.{flat, read}
use Rattle.doc_model.specs.Changes.{takes, child_count, set_in, no_place}
use Rattle.tree_core.specs.declared.node.Node.{Node}
use Rattle.tree_core.specs.Nodes.{Tree, rows_of, tree_of, levels, start_in, nodes_before, moved_node, IsKept}
use Rattle.tree_core.proofs.Passes.{next_node}
use Rattle.tree_core.proofs.Moved.{stands_is}
use Rattle.tree_core.proofs.Others.{in_part, out_part, start_left}
use Rattle.tree_core.proofs.Refused.{part_absent, part_there, first_depth_is, levels_are, no_node_there, no_group_there, into_itself, too_deep, bad_place, good_place}
use Rattle.tree_core.proofs.Placed.{others_now, at_now, placed_rows}

module _ (q p place : ℕ) (nodes : List Node) (k : IsKept nodes) (s e : ℕ) (order : s ≤ e) (low : e ≤ length nodes) (rows : rows_of (slice_range nodes s e) ≡ flat (depth q (tree_of nodes) - 1) (only q (tree_of nodes))) where
  abbrev t : Tree
  t = tree_of nodes

  abbrev moved : List Node
  moved = slice_range nodes s e

  abbrev left : List Node
  left = remove_range nodes s e

  -- no node has the id
  pub lost : s ≡ e → no_place q p place t ≡ Some (NoNode q)
  lost h = no_node_there q p place t (part_absent q nodes s e order low rows h)

  module _ (some : s ≢ e) where
    there : has q t ≡ true
    there = part_there q nodes s e order low rows some

    -- there is no such group
    pub no_group : takes p t ≡ false → no_place q p place t ≡ Some (cond (has p t) (NotGroup p) (NoNode p))
    no_group g = no_group_there q p place t k.once there g

    -- the depth of the node's children
    pub from_is : (d : Node) → (get_or nodes s d).depth + 1 ≡ depth q t
    from_is d = first_depth_is q t (get_or nodes s d) (take (e - s - 1) (drop (s + 1) nodes)) there (ap rows_of first ∙ rows)
      where
        first : get_or nodes s d ∷ take (e - s - 1) (drop (s + 1) nodes) ≡ moved
        first = sym (ap (take (e - s)) (next_node nodes s d (omega arith)) ∙ ap (λ n. take n (get_or nodes s d ∷ drop (s + 1) nodes)) (let n : e - s ≡ suc (e - s - 1) = omega arith in n))

    module _ (g : takes p t ≡ true) where
      -- the group stands in the part
      pub into : s < start_in p nodes → start_in p nodes ≤ e → no_place q p place t ≡ Some (IntoItself q)
      into a b = into_itself q p place t k.once there g (sym (stands_is p (depth q t - 1) q t moved rows) ∙ in_part nodes s e order low p k g a b)

      module _ (beside : s < start_in p nodes → e < start_in p nodes) where
        out : has p (only q t) ≡ false
        out = sym (stands_is p (depth q t - 1) q t moved rows) ∙ out_part nodes s e order low p k g beside

        module _ (d l : ℕ) (d_is : d ≡ depth p t) (l_is : l ≡ levels moved) where
          sum_is : d + l ≡ depth p t + height (only q t)
          sum_is = let h : levels moved ≡ height (only q t) = levels_are q t moved there rows in omega arith

          pub deep : 16 < d + l → no_place q p place t ≡ Some (TooDeep 16)
          deep h = too_deep q p place t k.once there g out (let i : d + l ≡ depth p t + height (only q t) = sum_is in omega arith)

          module _ (fits : d + l ≤ 16) (kept_left : IsKept left) (tree_left : tree_of left ≡ without q t) (start : ℕ) (start_is : start ≡ cond (ltb s (start_in p nodes)) (start_in p nodes - (e - s)) (start_in p nodes)) where
            shallow : depth p t + height (only q t) ≤ 16
            shallow = let i : d + l ≡ depth p t + height (only q t) = sum_is in omega arith

            start_now : start ≡ start_in p left
            start_now = start_is ∙ sym (start_left nodes s e order low p k g beside kept_left)

            counted : width (read d (rows_of (drop start left))) ≡ child_count p (without q t)
            counted = others_now q p place nodes k g out left kept_left tree_left d start d_is start_now

            -- it has too few children
            pub short : ltb (width (read d (rows_of (drop start left)))) place ≡ true → no_place q p place t ≡ Some (BadPlace place)
            short h = bad_place q p place t k.once there g out shallow (ap (λ n. ltb n place) (sym counted) ∙ h)

            -- nothing is refused
            pub enough : ltb (width (read d (rows_of (drop start left)))) place ≡ false → no_place q p place t ≡ None
            enough h = good_place q p place t k.once there g out shallow (ap (λ n. ltb n place) (sym counted) ∙ h)

            -- and here is where the part goes
            pub goes : (from at : ℕ) → from ≡ depth q t → at ≡ start + nodes_before d place (drop start left) → rows_of (take at left ++ (map (moved_node from d) moved ++ drop at left)) ≡ flat 0 (set_in p place (only q t) (without q t))
            goes from at f i = placed_rows q p place nodes k g out left kept_left tree_left there shallow moved rows from d at f d_is (at_now q p place nodes k g out left kept_left tree_left d start at d_is start_now i)
