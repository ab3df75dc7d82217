-- Where the nodes of a group stand among the nodes.
use Rattle.std.proofs.Common.{◌≡◌, ◌≢◌, ℕ, suc, ◌+◌, Bool, true, false, ◌||◌, cond, Some, None, List, [], ◌∷◌, ◌++◌, map, drop, refl, sym, ap, ◌∙◌, arith, eqb, subst, append_assoc, append-nil, inl, inr}
use Rattle.std.proofs.lemmas.Bool.Decides.{nat_tests}
use Rattle.geom_core.proofs.Tests.{taken, kept, none_left, none_right, or_cases}
use Rattle.doc_model.specs.Forest.{none, paint, group, has, is_group, width, depth, children, join, inserted, within}
use Rattle.doc_model.specs.Flat.{Row, flat, EndsAt, ends_below}
use Rattle.doc_model.specs.Changes.{takes, child_count, set_in}
use Rattle.doc_model.proofs.Parents.{Distinct}
use Rattle.doc_model.proofs.Weights.{within_absent, tree_distinct, tree_root}
use Rattle.doc_model.proofs.Paths.{group_has, other_than, children_absent, join_none}
use Rattle.tree_core.specs.declared.node.Node.{Node}
use Rattle.tree_core.specs.Nodes.{Tree, row_of, tree_of, IsKept}
use Rattle.tree_core.proofs.Choices.{turned}
use Rattle.tree_core.proofs.Kept.{Rows}
use Rattle.tree_core.proofs.Passes.{nodes_after, after_node, after_nodes}
use Rattle.tree_core.proofs.Depths.{depth_absent}

-- the nodes of a group in their place
abbrev row_after : ℕ → Rows → Rows
row_after q [] = []
row_after q (r ∷ rs) = cond (eqb q r.id) rs (row_after q rs)

-- rows among which q is not are passed over
row_after_skip : (q d : ℕ) (f : Tree) (rows : Rows) → has q f ≡ false → row_after q (flat d f ++ rows) ≡ row_after q rows
row_after_skip q d none rows h = refl
row_after_skip q d (paint id look x rest) rows h = kept (eqb q id) _ _ (none_left (eqb q id) _ h) ∙ row_after_skip q d rest rows (none_right (eqb q id) _ h)
row_after_skip q d (group id look nodes rest) rows h = kept (eqb q id) _ _ (none_left (eqb q id) _ h) ∙ ap (row_after q) (append_assoc (flat (suc d) nodes) (flat d rest) rows)
    ∙ row_after_skip q (suc d) nodes (flat d rest ++ rows) (none_left (has q nodes) _ (none_right (eqb q id) _ h)) ∙ row_after_skip q d rest rows (none_right (has q nodes) _ (none_right (eqb q id) _ h))

-- e is the depth of the nodes in the group q, front the rows before them, more those nodes_after them
record Zip (q d e : ℕ) (f : Tree) (rows : Rows) : Type 0 where
  front : Rows
  more : Rows
  is : flat d f ++ rows ≡ front ++ (flat e (children q f) ++ more)
  changes : (change : Tree → Tree) → flat d (within q change f) ++ rows ≡ front ++ (flat e (change (children q f)) ++ more)
  ends : EndsAt e more
  rest : row_after q (flat d f ++ rows) ≡ flat e (children q f) ++ more

-- a group that is there has such a place
zip : (q d e : ℕ) (f : Tree) (rows : Rows) → Distinct f → is_group q f ≡ true → EndsAt d rows → e ≡ d + depth q f → Zip q d e f rows
zip q d e none rows dis g ends at = absurd (let t : false ≡ true = g in cc)
zip q d e (paint id look x rest) rows dis g ends at =
    let skip : eqb q id ≡ false = other_than q id rest dis.0 (group_has q rest g) in
    let z : Zip q d e rest rows = zip q d e rest rows dis.1 g ends (at ∙ ap (λ n. d + n) (kept (eqb q id) 1 (depth q rest) skip)) in
    record {
      front = record { depth = d; id = id; look = look; content = Some x } ∷ z.front;
      more = z.more;
      is = ap (λ rs. record { depth = d; id = id; look = look; content = Some x } ∷ rs) z.is;
      changes = λ change. ap (λ rs. record { depth = d; id = id; look = look; content = Some x } ∷ rs) (z.changes change);
      ends = z.ends;
      rest = kept (eqb q id) _ _ skip ∙ z.rest;
    }
zip q d e (group id look nodes rest) rows dis g ends at =
    by_here (λ g' a. zip q (suc d) e nodes (flat d rest ++ rows) dis.3 g' (ends_below d rest rows ends) a) (λ g' a. zip q d e rest rows dis.4 g' ends a) (eqb q id) refl (has q nodes) refl
  where
    r : Row (Unit {0})
    r = record { depth = d; id = id; look = look; content = None }

    f : Tree
    f = group id look nodes rest

    assoc : (x : Tree) (y : Tree) → (flat (suc d) x ++ flat d y) ++ rows ≡ flat (suc d) x ++ (flat d y ++ rows)
    assoc x y = append_assoc (flat (suc d) x) (flat d y) rows

    same_group : {x x' y y' : Tree} → x ≡ x' → y ≡ y' → group id look x y ≡ group id look x' y'
    same_group e h i = group id look (e i) (h i)

    deep : (b t : Bool) → eqb q id ≡ b → has q nodes ≡ t → e ≡ d + cond b 1 (cond t (suc (depth q nodes)) (depth q rest))
    deep b t i h = at ∙ ap (λ n. d + n) (rw (i, h) refl)

    by_here : (is_group q nodes ≡ true → e ≡ suc d + depth q nodes → Zip q (suc d) e nodes (flat d rest ++ rows)) → (is_group q rest ≡ true → e ≡ d + depth q rest → Zip q d e rest rows)
        → (b : Bool) → eqb q id ≡ b → (t : Bool) → has q nodes ≡ t → Zip q d e (group id look nodes rest) rows
    by_here m n true i t h = record {
      front = r ∷ [];
      more = flat d rest ++ rows;
      is = ap (λ rs. r ∷ rs) (assoc nodes rest ∙ ap (λ x. x ++ (flat d rest ++ rows)) (same nodes (children q f) (sym kid)));
      changes = λ change. ap (λ x. flat d x ++ rows) (same_group (taken (eqb q id) _ _ i) (within_absent q change rest out)) ∙ ap (λ rs. r ∷ rs) (assoc (change nodes) rest ∙ ap (λ x. x ++ (flat d rest ++ rows)) (same (change nodes) (change (children q f)) (ap change (sym kid))));
      ends = subst (λ k. EndsAt k (flat d rest ++ rows)) (sym level) (ends_below d rest rows ends);
      rest = taken (eqb q id) _ _ i ∙ assoc nodes rest ∙ ap (λ x. x ++ (flat d rest ++ rows)) (same nodes (children q f) (sym kid));
    }
      where
        level : e ≡ suc d
        level = let l : e ≡ d + 1 = deep true t i h in omega arith

        out : has q rest ≡ false
        out = let is : q ≡ id = grind (arith, nat_tests) in ap (λ x. has x rest) is ∙ dis.1

        kid : children q f ≡ nodes
        kid = taken (eqb q id) _ _ i

        same : (x y : Tree) → x ≡ y → flat (suc d) x ≡ flat e y
        same x y p j = flat (sym level j) (p j)
    by_here m n false i true h = record {
      front = r ∷ z.front;
      more = z.more;
      is = ap (λ rs. r ∷ rs) (assoc nodes rest ∙ z.is ∙ ap (λ c. z.front ++ (flat e c ++ z.more)) (sym kid));
      changes = λ change. ap (λ x. flat d x ++ rows) (same_group (kept (eqb q id) _ _ i) (within_absent q change rest out)) ∙ ap (λ rs. r ∷ rs) (assoc (within q change nodes) rest ∙ z.changes change ∙ ap (λ c. z.front ++ (flat e (change c) ++ z.more)) (sym kid));
      ends = z.ends;
      rest = kept (eqb q id) _ _ i ∙ ap (row_after q) (assoc nodes rest) ∙ z.rest ∙ ap (λ c. flat e c ++ z.more) (sym kid);
    }
      where
        out : has q rest ≡ false
        out = dis.2 q h

        in_nodes : is_group q nodes ≡ true
        in_nodes = elim (or_cases (eqb q id) _ g) [ inl k ↦ absurd (cc) | inr k ↦ elim (or_cases (is_group q nodes) (is_group q rest) k) [ inl l ↦ l | inr l ↦ absurd (let t : has q rest ≡ true = group_has q rest l in let u : has q rest ≡ false = out in cc) ] ]

        level : e ≡ suc d + depth q nodes
        level = let l : e ≡ d + suc (depth q nodes) = deep false true i h in omega arith

        z : Zip q (suc d) e nodes (flat d rest ++ rows)
        z = m in_nodes level

        kid : children q f ≡ children q nodes
        kid = kept (eqb q id) _ _ i ∙ ap (join (children q nodes)) (children_absent q rest out) ∙ join_none (children q nodes)
    by_here m n false i false h = record {
      front = r ∷ (flat (suc d) nodes ++ z.front);
      more = z.more;
      is = ap (λ rs. r ∷ rs) (assoc nodes rest ∙ ap (λ x. flat (suc d) nodes ++ x) (z.is ∙ ap (λ c. z.front ++ (flat e c ++ z.more)) (sym kid)) ∙ sym (append_assoc (flat (suc d) nodes) z.front (flat e (children q f) ++ z.more)));
      changes = λ change. ap (λ x. flat d x ++ rows) (same_group (kept (eqb q id) _ _ i ∙ within_absent q change nodes h) refl)
          ∙ ap (λ rs. r ∷ rs) (assoc nodes (within q change rest) ∙ ap (λ x. flat (suc d) nodes ++ x) (z.changes change ∙ ap (λ c. z.front ++ (flat e (change c) ++ z.more)) (sym kid)) ∙ sym (append_assoc (flat (suc d) nodes) z.front (flat e (change (children q f)) ++ z.more)));
      ends = z.ends;
      rest = kept (eqb q id) _ _ i ∙ ap (row_after q) (assoc nodes rest) ∙ row_after_skip q (suc d) nodes (flat d rest ++ rows) h ∙ z.rest ∙ ap (λ c. flat e c ++ z.more) (sym kid);
    }
      where
        in_rest : is_group q rest ≡ true
        in_rest = elim (or_cases (eqb q id) _ g) [ inl k ↦ absurd (cc) | inr k ↦ elim (or_cases (is_group q nodes) (is_group q rest) k) [ inl l ↦ absurd (let t : has q nodes ≡ true = group_has q nodes l in cc) | inr l ↦ l ] ]

        z : Zip q d e rest rows
        z = n in_rest (deep false false i h)

        kid : children q f ≡ children q rest
        kid = kept (eqb q id) _ _ i ∙ ap (λ a. join a (children q rest)) (children_absent q nodes h)

-- the same of nodes
after_rows : (q : ℕ) (nodes : List Node) → map row_of (after_node q nodes) ≡ row_after q (map row_of nodes)
after_rows q [] = refl
after_rows q (n ∷ ns) = go (eqb n.id q) (after_rows q ns) ∙ ap (λ b. cond b (map row_of ns) (row_after q (map row_of ns))) (turned n.id q)
  where
    go : (b : Bool) → map row_of (after_node q ns) ≡ row_after q (map row_of ns) → map row_of (cond b ns (after_node q ns)) ≡ cond b (map row_of ns) (row_after q (map row_of ns))
    go true e = refl
    go false e = e

-- a test that fails
not_root : (q : ℕ) → eqb q 0 ≡ false → q ≢ 0
not_root q e = grind (arith, nat_tests)

-- the nodes in the root or a group q stand between front and more, at the depth e
pub record Between (q : ℕ) (nodes : List Node) : Type 0 where
  pub held : Tree
  pub held_is : cond (eqb q 0) (tree_of nodes) (children q (tree_of nodes)) ≡ held
  pub front : Rows
  pub more : Rows
  pub is : map row_of nodes ≡ front ++ (flat (depth q (tree_of nodes)) held ++ more)
  pub changes : (place : ℕ) (new : Tree) → flat 0 (set_in q place new (tree_of nodes)) ≡ front ++ (flat (depth q (tree_of nodes)) (inserted place new held) ++ more)
  pub ends : EndsAt (depth q (tree_of nodes)) more
  pub rest : map row_of (nodes_after q nodes) ≡ flat (depth q (tree_of nodes)) held ++ more
  pub many : child_count q (tree_of nodes) ≡ width held

-- the root and every group have such a place
pub between : (q : ℕ) (nodes : List Node) → IsKept nodes → takes q (tree_of nodes) ≡ true → Between q nodes
between q nodes k t = go (eqb q 0) refl t
  where
    f : Tree
    f = tree_of nodes

    go : (b : Bool) → eqb q 0 ≡ b → (b || is_group q f) ≡ true → Between q nodes
    go true e t = record {
      held = f;
      held_is = taken (eqb q 0) _ _ e;
      front = [];
      more = [];
      is = k.whole ∙ sym (append-nil (flat 0 f)) ∙ ap (λ d. flat d f ++ []) (sym none_up);
      changes = λ place new. ap (flat 0) (taken (eqb q 0) _ _ e) ∙ sym (append-nil (flat 0 (inserted place new f))) ∙ ap (λ d. flat d (inserted place new f) ++ []) (sym none_up);
      ends = tt;
      rest = ap (λ i. map row_of (drop i nodes)) (taken (eqb q 0) 0 _ e) ∙ k.whole ∙ sym (append-nil (flat 0 f)) ∙ ap (λ d. flat d f ++ []) (sym none_up);
      many = taken (eqb q 0) _ _ e;
    }
      where
        none_up : depth q f ≡ 0
        none_up = let is : q ≡ 0 = grind (arith, nat_tests) in ap (λ n. depth n f) is ∙ depth_absent 0 f (tree_root f k.once)
    go false e t = record {
      held = children q f;
      held_is = kept (eqb q 0) _ _ e;
      front = z.front;
      more = z.more;
      is = k.whole ∙ sym (append-nil (flat 0 f)) ∙ z.is;
      changes = λ place new. ap (flat 0) (kept (eqb q 0) _ _ e) ∙ sym (append-nil (flat 0 (within q (inserted place new) f))) ∙ z.changes (λ x. inserted place new x);
      ends = z.ends;
      rest = ap (map row_of) (sym (after_nodes q nodes (not_root q e))) ∙ after_rows q nodes ∙ ap (row_after q) (k.whole ∙ sym (append-nil (flat 0 f))) ∙ z.rest;
      many = kept (eqb q 0) _ _ e;
    }
      where
        z : Zip q 0 (depth q f) f []
        z = zip q 0 (depth q f) f [] (tree_distinct f k.once) t tt (omega arith)
