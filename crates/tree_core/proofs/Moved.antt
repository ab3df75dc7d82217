-- A node that is moved with those below it.
use Rattle.std.proofs.Common.{◌≡◌, ℕ, suc, ◌+◌, ◌-◌, ◌≤◌, Bool, true, false, ◌||◌, cond, Some, None, is_some, List, [], ◌∷◌, ◌++◌, map, refl, sym, ap, ◌∙◌, arith, eqb, subst, ◌⊎◌, inl, inr}
use Rattle.std.specs.Prelude.{max, min}
use Rattle.std.proofs.lemmas.List.{map-append}
use Rattle.geom_core.proofs.Tests.{or_cases, or_left, or_right}
use Rattle.doc_model.specs.Forest.{none, paint, group, has, height, depth, join, only, without}
use Rattle.doc_model.specs.Flat.{Row, flat}
use Rattle.doc_model.specs.Changes.{takes}
use Rattle.doc_model.specs.Ids.{IsTree}
use Rattle.doc_model.proofs.Weights.{tree_distinct}
use Rattle.doc_model.proofs.Heights.{group_without, has_join}
use Rattle.tree_core.specs.declared.node.Node.{Node}
use Rattle.tree_core.specs.Nodes.{Tree, rows_of, row_of, tree_of, IsKept, greatest_depth, moved_node}
use Rattle.tree_core.proofs.Kept.{Rows}
use Rattle.tree_core.proofs.Passes.{first_with}
use Rattle.tree_core.proofs.Finding.{any_row, any_flat, found_any}
use Rattle.tree_core.proofs.Depths.{depth_some}

-- what is found in the part stands there
pub stands_is : (inner d q : ℕ) (t : Tree) (moved : List Node) → rows_of moved ≡ flat d (only q t) → is_some (first_with inner moved) ≡ has inner (only q t)
stands_is inner d q t moved e = found_any inner moved ∙ ap (any_row inner) e ∙ any_flat inner d (only q t)

-- a group outside the part stays one
pub takes_without : (q c : ℕ) (nodes : List Node) (t : Tree) → IsKept nodes → tree_of nodes ≡ t → has c (only q t) ≡ false → takes c (without q t) ≡ takes c t
takes_without q c nodes t k is h = ap (λ b. eqb c 0 || b) (group_without q c t (tree_distinct t (subst IsTree is k.once)) h)

-- heights
abbrev row_deepest : Rows → ℕ
row_deepest [] = 0
row_deepest (r ∷ rs) = max r.depth (row_deepest rs)

-- the same of nodes
deepest_rows : (nodes : List Node) → greatest_depth nodes ≡ row_deepest (map row_of nodes)
deepest_rows [] = refl
deepest_rows (n ∷ ns) = ap (max n.depth) (deepest_rows ns)

-- of rows one after another
deepest_append : (xs ys : Rows) → row_deepest (xs ++ ys) ≡ max (row_deepest xs) (row_deepest ys)
deepest_append [] ys = omega arith
deepest_append (x ∷ xs) ys = let h : row_deepest (xs ++ ys) ≡ max (row_deepest xs) (row_deepest ys) = deepest_append xs ys in omega arith

-- the depth of the greatest_depth row and the height
deepest_flat : (k : ℕ) (f : Tree) → ((row_deepest (flat k f) ≡ 0) × (height f ≡ 0)) ⊎ (suc (row_deepest (flat k f)) ≡ k + height f)
deepest_flat k none = inl (refl, refl)
deepest_flat k (paint id look x rest) = elim (deepest_flat k rest) [
  | inl e ↦ inr (let a : row_deepest (flat k rest) ≡ 0 = e.0 in let b : height rest ≡ 0 = e.1 in omega arith)
  | inr e ↦ inr (omega arith)
]
deepest_flat k (group id look nodes rest) =
    let j : row_deepest (flat (suc k) nodes ++ flat k rest) ≡ max (row_deepest (flat (suc k) nodes)) (row_deepest (flat k rest)) = deepest_append (flat (suc k) nodes) (flat k rest) in
    inr (elim (deepest_flat (suc k) nodes) [
      | inl m ↦ elim (deepest_flat k rest) [
        | inl e ↦ (let a : row_deepest (flat (suc k) nodes) ≡ 0 = m.0 in let b : height nodes ≡ 0 = m.1 in let c : row_deepest (flat k rest) ≡ 0 = e.0 in let d : height rest ≡ 0 = e.1 in omega arith)
        | inr e ↦ (let a : row_deepest (flat (suc k) nodes) ≡ 0 = m.0 in let b : height nodes ≡ 0 = m.1 in omega arith)
      ]
      | inr m ↦ elim (deepest_flat k rest) [
        | inl e ↦ (let c : row_deepest (flat k rest) ≡ 0 = e.0 in let d : height rest ≡ 0 = e.1 in omega arith)
        | inr e ↦ omega arith
      ]
    ])

-- a node stands in its own part
pub has_only : (q : ℕ) (f : Tree) → has q f ≡ true → has q (only q f) ≡ true
has_only q none h = h
has_only q (paint id look x rest) h = go (λ e. has_only q rest e) (eqb q id) refl h
  where
    go : (has q rest ≡ true → has q (only q rest) ≡ true) → (b : Bool) → eqb q id ≡ b → (b || has q rest) ≡ true → has q (cond b (paint id look x none) (only q rest)) ≡ true
    go r true e h = or_left (eqb q id) _ e
    go r false e h = r h
has_only q (group id look nodes rest) h = go (λ e. has_only q nodes e) (λ e. has_only q rest e) (eqb q id) refl h
  where
    go : (has q nodes ≡ true → has q (only q nodes) ≡ true) → (has q rest ≡ true → has q (only q rest) ≡ true) → (b : Bool) → eqb q id ≡ b → (b || (has q nodes || has q rest)) ≡ true → has q (cond b (group id look nodes none) (join (only q nodes) (only q rest))) ≡ true
    go m r true e h = or_left (eqb q id) _ e
    go m r false e h = has_join q (only q nodes) (only q rest) ∙ elim (or_cases (has q nodes) (has q rest) h) [ inl i ↦ or_left (has q (only q nodes)) _ (m i) | inr i ↦ or_right (has q (only q nodes)) _ (r i) ]

-- a tree with a node has a level
high : (q : ℕ) (f : Tree) → has q f ≡ true → 1 ≤ height f
high q none h = absurd (let t : false ≡ true = h in cc)
high q (paint id look x rest) h = omega arith
high q (group id look nodes rest) h = omega arith

-- the numbers of a height
height_numbers : (D d k h : ℕ) → suc D ≡ k + h → d ≡ suc k → (D + 2) - d ≡ h
height_numbers D d k h e f = omega arith

-- the height of a node with those below it
pub height_is : (q : ℕ) (t : Tree) (moved : List Node) → has q t ≡ true → rows_of moved ≡ flat (depth q t - 1) (only q t) → (D d : ℕ) → D ≡ greatest_depth moved → d ≡ depth q t → (D + 2) - d ≡ height (only q t)
height_is q t moved h m D d e f = height_numbers D d s.0 (height (only q t)) (ap suc (e ∙ deepest_rows moved ∙ ap row_deepest (m ∙ ap (λ n. flat n (only q t)) (minus s.0 (depth q t) s.1))) ∙ tall (deepest_flat s.0 (only q t))) (f ∙ sym s.1)
  where
    s : (k : ℕ) × (suc k ≡ depth q t)
    s = depth_some q t h

    minus : (m n : ℕ) → suc m ≡ n → n - 1 ≡ m
    minus m n e = omega arith

    tall : ((row_deepest (flat s.0 (only q t)) ≡ 0) × (height (only q t) ≡ 0)) ⊎ (suc (row_deepest (flat s.0 (only q t))) ≡ s.0 + height (only q t))
        → suc (row_deepest (flat s.0 (only q t))) ≡ s.0 + height (only q t)
    tall (inl low) = absurd (let a : 1 ≤ height (only q t) = high q (only q t) (has_only q t h) in let b : height (only q t) ≡ 0 = low.1 in omega arith)
    tall (inr e) = e

-- the rows at another depth
abbrev pub relevel_row : ℕ → ℕ → Row (Unit {0}) → Row (Unit {0})
relevel_row a b r = record r { depth = min ((r.depth + 1 + b) - a) 255 }

-- the same of nodes
pub relevel_rows : (a b : ℕ) (nodes : List Node) → map row_of (map (moved_node a b) nodes) ≡ map (relevel_row a b) (map row_of nodes)
relevel_rows a b [] = refl
relevel_rows a b (n ∷ ns) = ap (λ rs. relevel_row a b (row_of n) ∷ rs) (relevel_rows a b ns)

-- the numbers of a new depth
new_depth : (k e j h : ℕ) → 1 ≤ h → e + j + h ≤ 255 → min (((k + j) + 1 + e) - suc k) 255 ≡ e + j
new_depth k e j h low fits = omega arith

-- the rows of a part at its new depth
pub relevel_flat : (k e j : ℕ) (f : Tree) → e + j + height f ≤ 255 → map (relevel_row (suc k) e) (flat (k + j) f) ≡ flat (e + j) f
relevel_flat k e j none fits = refl
relevel_flat k e j (paint id look x rest) fits =
    let here : min (((k + j) + 1 + e) - suc k) 255 ≡ e + j = new_depth k e j (max 1 (height rest)) (omega arith) fits in
    ap (λ d. record { depth = d; id = id; look = look; content = Some x } ∷ map (relevel_row (suc k) e) (flat (k + j) rest)) here
    ∙ ap (λ rs. record { depth = e + j; id = id; look = look; content = Some x } ∷ rs) (relevel_flat k e j rest (omega arith))
relevel_flat k e j (group id look nodes rest) fits =
    let here : min (((k + j) + 1 + e) - suc k) 255 ≡ e + j = new_depth k e j (max (suc (height nodes)) (height rest)) (omega arith) fits in
    let from : suc (k + j) ≡ k + suc j = omega arith in
    let to : e + suc j ≡ suc (e + j) = omega arith in
    ap (λ d. record { depth = d; id = id; look = look; content = None } ∷ map (relevel_row (suc k) e) (flat (suc (k + j)) nodes ++ flat (k + j) rest)) here
    ∙ ap (λ rs. record { depth = e + j; id = id; look = look; content = None } ∷ rs)
    (map-append (relevel_row (suc k) e) (flat (suc (k + j)) nodes) (flat (k + j) rest)
    ∙ ap (λ d. map (relevel_row (suc k) e) (flat d nodes) ++ map (relevel_row (suc k) e) (flat (k + j) rest)) from
    ∙ ap (λ rs. rs ++ map (relevel_row (suc k) e) (flat (k + j) rest)) (relevel_flat k e (suc j) nodes (omega arith) ∙ ap (λ d. flat d nodes) to)
    ∙ ap (λ rs. flat (suc (e + j)) nodes ++ rs) (relevel_flat k e j rest (omega arith)))
