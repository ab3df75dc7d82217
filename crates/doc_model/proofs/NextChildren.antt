-- The child of a group at a place, and those above it.
use Rattle.std.proofs.Common.{◌≡◌, ℕ, suc, zero, ◌≤◌, Bool, true, false, ◌||◌, cond, Option, Some, None, refl, sym, ap, ◌∙◌, arith, eqb, inl, inr, ◌⊎◌}
use Rattle.std.proofs.lemmas.Bool.Decides.{nat_tests}
use Rattle.geom_core.proofs.Tests.{taken, kept, or_left}
use Rattle.doc_model.specs.declared.tree.Look.{Look}
use Rattle.doc_model.specs.Forest.{Forest, none, paint, group, has, is_group, height, width, lower, upper, only, children, content}
use Rattle.doc_model.specs.Children.{look_in, side_at, child_in}
use Rattle.doc_model.specs.Changes.{takes, child_count}
use Rattle.doc_model.specs.Ids.{IsTree}
use Rattle.doc_model.proofs.Parents.{Distinct}
use Rattle.doc_model.proofs.Weights.{tree_distinct, tree_root}
use Rattle.doc_model.proofs.LoneNodes.{side_next, only_inside, only_side, side_there, look_only, content_only, group_only, children_only, children_distinct, children_have}

-- the nodes in a group; the group 0 is the root
abbrev pub kids : {A : Type 0} → ℕ → Forest A → Forest A
kids g t = cond (eqb g 0) t (children g t)

-- a paint layer with that id and look stands k-th among the nodes
pub record IsPaintAt {A : Type 0} (t nodes : Forest A) (k id : ℕ) (look : Look) : Type 0 where
  pub held : A
  pub here : upper k nodes ≡ paint id look held (upper (suc k) nodes)
  pub paints : takes id t ≡ false
  pub holds : content id t ≡ Some held

-- a group with that id and look stands k-th among the nodes
pub record IsGroupAt {A : Type 0} (t nodes : Forest A) (k id : ℕ) (look : Look) : Type 0 where
  pub here : upper k nodes ≡ group id look (kids id t) (upper (suc k) nodes)
  pub groups : takes id t ≡ true

is_same : (a b : ℕ) → Some a ≡ Some b → eqb b a ≡ true
is_same a b e = let same : a ≡ b = cc in grind (arith, nat_tests)

same_look : (b : Bool) (m look : Look) (o : Option Look) → b ≡ true → cond b (Some m) o ≡ Some look → m ≡ look
same_look true m look o t e = cc
same_look false m look o t e = absurd (cc)

module _ {A : Type 0} where
  upper_more : (k : ℕ) (f : Forest A) → upper (suc k) f ≡ upper 1 (upper k f)
  upper_more zero f = refl
  upper_more (suc k) none = refl
  upper_more (suc k) (paint id look x rest) = upper_more k rest
  upper_more (suc k) (group id look nodes rest) = upper_more k rest

  -- above the last nothing follows
  pub upper_all : (k : ℕ) (f : Forest A) → width f ≤ k → upper k f ≡ none
  upper_all zero none h = refl
  upper_all zero (paint id look x rest) h = absurd (omega arith)
  upper_all zero (group id look nodes rest) h = absurd (omega arith)
  upper_all (suc k) none h = refl
  upper_all (suc k) (paint id look x rest) h = upper_all k rest (omega arith)
  upper_all (suc k) (group id look nodes rest) h = upper_all k rest (omega arith)

  -- those above a node are no higher than all
  pub upper_low : (k : ℕ) (f : Forest A) → height (upper k f) ≤ height f
  upper_low zero f = omega arith
  upper_low (suc k) none = omega arith
  upper_low (suc k) (paint id look x rest) = let h : height (upper k rest) ≤ height rest = upper_low k rest in omega arith
  upper_low (suc k) (group id look nodes rest) = let h : height (upper k rest) ≤ height rest = upper_low k rest in omega arith

  -- where no node stands, none follows
  pub none_next : (k : ℕ) (f : Forest A) → side_at k f ≡ None → upper k f ≡ upper (suc k) f
  none_next zero none e = refl
  none_next (suc k) none e = refl
  none_next zero (paint id look x rest) e = cc
  none_next (suc k) (paint id look x rest) e = none_next k rest (sym (side_next k id rest) ∙ e)
  none_next zero (group id look nodes rest) e = cc
  none_next (suc k) (group id look nodes rest) e = none_next k rest (sym (side_next k id rest) ∙ e)

  -- as many as the children
  pub kids_counted : (g : ℕ) (t : Forest A) → child_count g t ≡ width (kids g t)
  kids_counted g t = go (eqb g 0)
    where
      go : (b : Bool) → cond b (width t) (width (children g t)) ≡ width (cond b t (children g t))
      go true = refl
      go false = refl

  -- a child is a node of the tree
  pub child_there : (g k id : ℕ) (t : Forest A) → child_in g k t ≡ Some id → has id t ≡ true
  child_there g k id t e = go (eqb g 0) e
    where
      go : (b : Bool) → side_at k (cond b t (children g t)) ≡ Some id → has id t ≡ true
      go true h = side_there k id t h
      go false h = children_have g id t (side_there k id (children g t) h)

  -- by itself it is the first of those from it on
  child_lone : (g k id : ℕ) (t : Forest A) → IsTree t → child_in g k t ≡ Some id → only id t ≡ lower 1 (upper k (kids g t))
  child_lone g k id t tree e = go (eqb g 0) e
    where
      go : (b : Bool) → side_at k (cond b t (children g t)) ≡ Some id → only id t ≡ lower 1 (upper k (cond b t (children g t)))
      go true h = only_side k id t (tree_distinct t tree) h
      go false h = only_inside g id t (tree_distinct t tree) (side_there k id (children g t) h) ∙ only_side k id (children g t) (children_distinct g t tree.once) h

  -- it isn't the root
  not_root : (id : ℕ) (t : Forest A) → IsTree t → has id t ≡ true → eqb id 0 ≡ false
  not_root id t tree h = go (eqb id 0) refl
    where
      go : (b : Bool) → eqb id 0 ≡ b → b ≡ false
      go true e = let is : id ≡ 0 = grind (arith, nat_tests) in absurd (let u : has id t ≡ false = ap (λ n. has n t) is ∙ tree_root t tree in cc)
      go false e = refl

  -- the k-th node is the first of those from it on
  side_upper : (k : ℕ) (f : Forest A) → side_at k f ≡ side_at 0 (upper k f)
  side_upper zero f = refl
  side_upper (suc k) none = refl
  side_upper (suc k) (paint id look x rest) = side_next k id rest ∙ side_upper k rest
  side_upper (suc k) (group id look nodes rest) = side_next k id rest ∙ side_upper k rest

  -- the child at a place, as its id and look are read, and those above it
  pub next_child : (t : Forest A) (g k id : ℕ) (look : Look) → IsTree t → child_in g k t ≡ Some id → look_in id t ≡ Some look → IsPaintAt t (kids g t) k id look ⊎ IsGroupAt t (kids g t) k id look
  next_child t g k id look tree e l = go (upper k (kids g t)) refl
    where
      d : Distinct t
      d = tree_distinct t tree

      other : eqb id 0 ≡ false
      other = not_root id t tree (child_there g k id t e)

      taken_is : takes id t ≡ is_group id t
      taken_is = ap (λ b. b || is_group id t) other

      lone : (f : Forest A) → upper k (kids g t) ≡ f → only id t ≡ lower 1 f
      lone f u = child_lone g k id t tree e ∙ ap (lower 1) u

      first : (f : Forest A) → upper k (kids g t) ≡ f → side_at 0 f ≡ Some id
      first f u = sym (ap (side_at 0) u) ∙ sym (side_upper k (kids g t)) ∙ e

      after : (f : Forest A) → upper k (kids g t) ≡ f → upper 1 f ≡ upper (suc k) (kids g t)
      after f u = sym (upper_more k (kids g t) ∙ ap (upper 1) u)

      go : (f : Forest A) → upper k (kids g t) ≡ f → IsPaintAt t (kids g t) k id look ⊎ IsGroupAt t (kids g t) k id look
      go none u = absurd (let f : None ≡ Some id = first none u in cc)
      go (paint i m x rest) u =
          let one : only id t ≡ paint i m x none = lone (paint i m x rest) u in
          let here : eqb id i ≡ true = is_same i id (first (paint i m x rest) u) in
          let same : i ≡ id = grind (arith, nat_tests) in
          let looks : m ≡ look = same_look (eqb id i) m look _ here (sym (ap (look_in id) one) ∙ look_only id t ∙ l) in
          inl (record {
            held = x;
            here = u ∙ (λ j. paint (same j) (looks j) x (after (paint i m x rest) u j));
            paints = taken_is ∙ sym (group_only id t d) ∙ ap (is_group id) one;
            holds = sym (content_only id t d) ∙ ap (content id) one ∙ taken (eqb id i) (Some x) None here;
          })
      go (group i m inner rest) u =
          let one : only id t ≡ group i m inner none = lone (group i m inner rest) u in
          let here : eqb id i ≡ true = is_same i id (first (group i m inner rest) u) in
          let same : i ≡ id = grind (arith, nat_tests) in
          let looks : m ≡ look = same_look (eqb id i) m look _ here (sym (ap (look_in id) one) ∙ look_only id t ∙ l) in
          let inside : kids id t ≡ inner = kept (eqb id 0) t (children id t) other ∙ sym (children_only id t d) ∙ ap (children id) one ∙ taken (eqb id i) inner _ here in
          inr (record {
            here = u ∙ (λ j. group (same j) (looks j) (sym inside j) (after (group i m inner rest) u j));
            groups = taken_is ∙ sym (group_only id t d) ∙ ap (is_group id) one ∙ or_left (eqb id i) _ here;
          })
