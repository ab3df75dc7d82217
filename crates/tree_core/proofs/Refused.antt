-- Why a new node can't come, and why a node can't be moved.
use Rattle.std.proofs.Common.{◌≡◌, ◌≢◌, ℕ, suc, ◌+◌, ◌-◌, ◌<◌, ◌≤◌, Bool, true, false, ◌||◌, not, cond, Some, None, List, [], ◌∷◌, length, refl, sym, ap, ◌∙◌, arith, eqb, ltb, inl, inr}
use Rattle.std.specs.Prelude.{slice_range}
use Rattle.std.proofs.lemmas.List.{length-map}
use Rattle.std.proofs.lemmas.Bool.Decides.{nat_tests}
use Rattle.geom_core.proofs.Tests.{taken, kept, none_left, or_cases, or_left, or_right}
use Rattle.doc_model.specs.declared.tree.TreeFault.TheVariants.{NoNode, NotGroup, IntoItself, TreeFull, TooDeep, BadPlace}
use Rattle.doc_model.specs.declared.tree.TreeFault.{TreeFault}
use Rattle.doc_model.specs.Forest.{none, paint, group, count, has, is_group, height, depth, only, without}
use Rattle.doc_model.specs.Flat.{flat}
use Rattle.doc_model.specs.Changes.{takes, child_count, no_new, no_place, first_of_faults, there as there_in}
use Rattle.doc_model.specs.Ids.{IsTree}
use Rattle.doc_model.proofs.Paths.{group_has}
use Rattle.tree_core.specs.declared.node.Node.{Node}
use Rattle.tree_core.specs.Nodes.{Tree, rows_of, row_of, tree_of, levels, greatest_depth}
use Rattle.tree_core.proofs.Choices.{there_test}
use Rattle.tree_core.proofs.Kept.{Rows}
use Rattle.tree_core.proofs.Depths.{depth_some}
use Rattle.tree_core.proofs.Others.{length_moved}
use Rattle.tree_core.proofs.Segments.{only_absent}
use Rattle.tree_core.proofs.Moved.{stands_is, has_only, height_is}

-- an empty part is that of no node
part_lost : (q : ℕ) (t : Tree) (moved : List Node) → rows_of moved ≡ flat (depth q t - 1) (only q t) → length moved ≡ 0 → has q t ≡ false
part_lost q t [] rows e = go (has q t) refl
  where
    go : (b : Bool) → has q t ≡ b → b ≡ false
    go true h = sym (has_only q t h) ∙ sym (stands_is q (depth q t - 1) q t [] rows)
    go false h = refl
part_lost q t (n ∷ ns) rows e = absurd (omega arith)

-- the part of a node that is there isn't empty
part_found : (q : ℕ) (t : Tree) (moved : List Node) → rows_of moved ≡ flat (depth q t - 1) (only q t) → length moved ≢ 0 → has q t ≡ true
part_found q t moved rows e = go (has q t) refl
  where
    go : (b : Bool) → has q t ≡ b → b ≡ true
    go true h = refl
    go false h = absurd (e (sym (length-map moved row_of) ∙ ap length (rows ∙ ap (flat (depth q t - 1)) (only_absent q t h))))

-- so an empty part tells that there is no such node
pub part_absent : (q : ℕ) (nodes : List Node) (s e : ℕ) → s ≤ e → e ≤ length nodes → rows_of (slice_range nodes s e) ≡ flat (depth q (tree_of nodes) - 1) (only q (tree_of nodes)) → s ≡ e → has q (tree_of nodes) ≡ false
part_absent q nodes s e order low rows h = part_lost q (tree_of nodes) (slice_range nodes s e) rows (let m : length (slice_range nodes s e) ≡ e - s = length_moved nodes s e order low in omega arith)

-- and any other that there is one
pub part_there : (q : ℕ) (nodes : List Node) (s e : ℕ) → s ≤ e → e ≤ length nodes → rows_of (slice_range nodes s e) ≡ flat (depth q (tree_of nodes) - 1) (only q (tree_of nodes)) → s ≢ e → has q (tree_of nodes) ≡ true
part_there q nodes s e order low rows h = part_found q (tree_of nodes) (slice_range nodes s e) rows (λ z. h (let m : length (slice_range nodes s e) ≡ e - s = length_moved nodes s e order low in omega arith))

-- the depth of the first row
abbrev first_depth : Rows → ℕ
first_depth [] = 0
first_depth (r ∷ rs) = r.depth

-- which is that of the nodes side by side
front_depth : (k : ℕ) (f : Tree) (n : Node) (ns : List Node) → rows_of (n ∷ ns) ≡ flat k f → n.depth ≡ k
front_depth k none n ns e = absurd (let z : suc (length (rows_of ns)) ≡ 0 = ap length e in omega arith)
front_depth k (paint id look x rest) n ns e = ap first_depth e
front_depth k (group id look nodes rest) n ns e = ap first_depth e

-- the depth of a part's first node
pub first_depth_is : (q : ℕ) (t : Tree) (n : Node) (ns : List Node) → has q t ≡ true → rows_of (n ∷ ns) ≡ flat (depth q t - 1) (only q t) → n.depth + 1 ≡ depth q t
first_depth_is q t n ns h rows =
    let front : n.depth ≡ depth q t - 1 = front_depth (depth q t - 1) (only q t) n ns rows in
    let s : (k : ℕ) × (suc k ≡ depth q t) = depth_some q t h in
    let deep : suc s.0 ≡ depth q t = s.1 in
    omega arith

-- the levels of a part
pub levels_are : (q : ℕ) (t : Tree) (moved : List Node) → has q t ≡ true → rows_of moved ≡ flat (depth q t - 1) (only q t) → levels moved ≡ height (only q t)
levels_are q t [] h rows = absurd (let lost : has q t ≡ false = part_lost q t [] rows refl in cc)
levels_are q t (n ∷ ns) h rows =
    let front : n.depth + 1 ≡ depth q t = first_depth_is q t n ns h rows in
    let tall : (greatest_depth (n ∷ ns) + 2) - depth q t ≡ height (only q t) = height_is q t (n ∷ ns) h rows (greatest_depth (n ∷ ns)) (depth q t) refl refl in
    omega arith

-- a group that is there is a node that is there, or the root
takes_there : (p : ℕ) (t : Tree) → takes p t ≡ true → there_in p t ≡ true
takes_there p t g = elim (or_cases (eqb p 0) (is_group p t) g) [ inl i ↦ or_left (eqb p 0) _ i | inr i ↦ or_right (eqb p 0) _ (group_has p t i) ]

-- the first refusals of a group that isn't there: there is no such node, or it is a layer
no_group : (p : ℕ) (t : Tree) (more : List (Bool × TreeFault)) → takes p t ≡ false → first_of_faults ((not (there_in p t), NoNode p) ∷ (not (takes p t), NotGroup p) ∷ more) ≡ Some (cond (has p t) (NotGroup p) (NoNode p))
no_group p t more g = go (has p t) refl
  where
    go : (b : Bool) → has p t ≡ b → first_of_faults ((not (there_in p t), NoNode p) ∷ (not (takes p t), NotGroup p) ∷ more) ≡ Some (cond b (NotGroup p) (NoNode p))
    go true h = kept (not (there_in p t)) _ _ (ap not (or_right (eqb p 0) _ h)) ∙ taken (not (takes p t)) _ _ (ap not g)
    go false h = taken (not (there_in p t)) _ _ (ap not (ap (λ b. b || has p t) (none_left (eqb p 0) _ g) ∙ h))

-- and of one that is there
some_group : (p : ℕ) (t : Tree) (more : List (Bool × TreeFault)) → takes p t ≡ true → first_of_faults ((not (there_in p t), NoNode p) ∷ (not (takes p t), NotGroup p) ∷ more) ≡ first_of_faults more
some_group p t more g = kept (not (there_in p t)) _ _ (ap not (takes_there p t g)) ∙ kept (not (takes p t)) _ _ (ap not g)

-- the refusals of a new node that come after those of its group
abbrev new_faults : ℕ → ℕ → Tree → List (Bool × TreeFault)
new_faults p place t = (eqb (count t) 256, TreeFull 256) ∷ (ltb 16 (depth p t + 1), TooDeep 16) ∷ (ltb (child_count p t) place, BadPlace place) ∷ []

-- and those of a node that is moved
abbrev place_faults : ℕ → ℕ → ℕ → Tree → List (Bool × TreeFault)
place_faults q p place t = (has p (only q t), IntoItself q) ∷ (ltb 16 (depth p t + height (only q t)), TooDeep 16) ∷ (ltb (child_count p (without q t)) place, BadPlace place) ∷ []

-- no node has the id yet
pub new_other : (id : ℕ) (t : Tree) → id ≢ 0 → has id t ≡ false → there_in id t ≡ false
new_other id t h e = ap (λ b. b || has id t) (let z : eqb id 0 ≡ false = grind (arith, nat_tests) in z) ∙ e

-- of a new node
module _ (id p place : ℕ) (t : Tree) (other : there_in id t ≡ false) where
  module _ (g : takes p t ≡ true) where
    to_room : no_new id p place t ≡ first_of_faults (new_faults p place t)
    to_room = kept (there_in id t) _ _ other ∙ some_group p t (new_faults p place t) g

    pub new_full : count t ≡ 256 → no_new id p place t ≡ Some (TreeFull 256)
    new_full h = to_room ∙ taken (eqb (count t) 256) _ _ (grind (arith, nat_tests))

    module _ (room : count t ≢ 256) where
      pub new_too_deep : 16 < depth p t + 1 → no_new id p place t ≡ Some (TooDeep 16)
      new_too_deep h = to_room ∙ kept (eqb (count t) 256) _ _ (grind (arith, nat_tests)) ∙ taken (ltb 16 (depth p t + 1)) _ _ (grind (arith, nat_tests))

      module _ (low : depth p t + 1 ≤ 16) where
        to_new_place : no_new id p place t ≡ first_of_faults ((ltb (child_count p t) place, BadPlace place) ∷ [])
        to_new_place = to_room ∙ kept (eqb (count t) 256) _ _ (grind (arith, nat_tests)) ∙ kept (ltb 16 (depth p t + 1)) _ _ (grind (arith, nat_tests))

        pub new_bad_place : ltb (child_count p t) place ≡ true → no_new id p place t ≡ Some (BadPlace place)
        new_bad_place h = to_new_place ∙ taken (ltb (child_count p t) place) _ _ h

        pub new_good_place : ltb (child_count p t) place ≡ false → no_new id p place t ≡ None
        new_good_place h = to_new_place ∙ kept (ltb (child_count p t) place) _ _ h

-- of a node that is moved
module _ (q p place : ℕ) (t : Tree) where
  -- no such node
  pub no_node_there : has q t ≡ false → no_place q p place t ≡ Some (NoNode q)
  no_node_there e = taken (not (has q t) || eqb q 0) _ _ (or_left (not (has q t)) _ (ap not e))

  module _ (once : IsTree t) (there : has q t ≡ true) where
    is_there : (not (has q t) || eqb q 0) ≡ false
    is_there = there_test q t once there

    pub no_group_there : takes p t ≡ false → no_place q p place t ≡ Some (cond (has p t) (NotGroup p) (NoNode p))
    no_group_there g = kept (not (has q t) || eqb q 0) _ _ is_there ∙ no_group p t (place_faults q p place t) g

    module _ (g : takes p t ≡ true) where
      to_part : no_place q p place t ≡ first_of_faults (place_faults q p place t)
      to_part = kept (not (has q t) || eqb q 0) _ _ is_there ∙ some_group p t (place_faults q p place t) g

      pub into_itself : has p (only q t) ≡ true → no_place q p place t ≡ Some (IntoItself q)
      into_itself h = to_part ∙ taken (has p (only q t)) _ _ h

      module _ (out : has p (only q t) ≡ false) where
        pub too_deep : 16 < depth p t + height (only q t) → no_place q p place t ≡ Some (TooDeep 16)
        too_deep h = to_part ∙ kept (has p (only q t)) _ _ out ∙ taken (ltb 16 (depth p t + height (only q t))) _ _ (grind (arith, nat_tests))

        module _ (low : depth p t + height (only q t) ≤ 16) where
          to_place : no_place q p place t ≡ first_of_faults ((ltb (child_count p (without q t)) place, BadPlace place) ∷ [])
          to_place = to_part ∙ kept (has p (only q t)) _ _ out ∙ kept (ltb 16 (depth p t + height (only q t))) _ _ (grind (arith, nat_tests))

          pub bad_place : ltb (child_count p (without q t)) place ≡ true → no_place q p place t ≡ Some (BadPlace place)
          bad_place h = to_place ∙ taken (ltb (child_count p (without q t)) place) _ _ h

          pub good_place : ltb (child_count p (without q t)) place ≡ false → no_place q p place t ≡ None
          good_place h = to_place ∙ kept (ltb (child_count p (without q t)) place) _ _ h
