-- The group round a node.
use Rattle.std.proofs.Common.{◌≡◌, ℕ, suc, zero, ◌+◌, ◌≤◌, Bool, true, false, ◌||◌, cond, Option, IsNone, ◌↔◌, is_some, Some, None, List, [], ◌∷◌, ◌++◌, map, refl, sym, ap, ◌∙◌, arith, eqb, ltb, append_assoc, append-nil}
use Rattle.std.proofs.lemmas.Bool.Decides.{nat_tests}
use Rattle.geom_core.proofs.Tests.{kept, none_left, none_right, equal_test}
use Rattle.doc_model.specs.Forest.{none, paint, group, has, depth}
use Rattle.doc_model.specs.Readers.{parent}
use Rattle.doc_model.specs.Flat.{flat}
use Rattle.tree_core.specs.declared.node.Node.{Node}
use Rattle.tree_core.specs.Nodes.{Tree, row_of, tree_of, IsKept}
use Rattle.tree_core.proofs.Choices.{turned, none_only}
use Rattle.tree_core.proofs.Kept.{Rows}
use Rattle.tree_core.proofs.Passes.{last_above}
use Rattle.tree_core.proofs.Depths.{depth_some}

-- the id of the last row before q that stands above the depth d, or best
abbrev row_last : ℕ → ℕ → ℕ → Rows → Option ℕ
row_last q d best [] = None
row_last q d best (r ∷ rs) = cond (eqb q r.id) (Some best) (row_last q d (cond (ltb r.depth d) r.id best) rs)

-- a row in this depth or below isn't the one
not_high : (e d : ℕ) → d ≤ e → ltb e d ≡ false
not_high e d h = grind (arith, nat_tests)

-- past nodes among which q isn't: something may be remembered, but nothing where q stands in this row or above
skip : (q d best e : ℕ) (f : Tree) (rows : Rows) → has q f ≡ false → (best' : ℕ) × (row_last q d best (flat e f ++ rows) ≡ row_last q d best' rows) × (d ≤ e → best' ≡ best)
skip q d best e none rows h = (best, refl, λ l. refl)
skip q d best e (paint id look x rest) rows h =
    let i : (best' : ℕ) × (row_last q d (cond (ltb e d) id best) (flat e rest ++ rows) ≡ row_last q d best' rows) × (d ≤ e → best' ≡ cond (ltb e d) id best) = skip q d (cond (ltb e d) id best) e rest rows (none_right (eqb q id) _ h) in
    (i.0, kept (eqb q id) _ _ (none_left (eqb q id) _ h) ∙ i.1, λ l. i.2 l ∙ kept (ltb e d) id best (not_high e d l))
skip q d best e (group id look nodes rest) rows h =
    let b : ℕ = cond (ltb e d) id best in
    let m : (best' : ℕ) × (row_last q d (cond (ltb e d) id best) (flat (suc e) nodes ++ (flat e rest ++ rows)) ≡ row_last q d best' (flat e rest ++ rows)) × (d ≤ suc e → best' ≡ cond (ltb e d) id best) =
    skip q d (cond (ltb e d) id best) (suc e) nodes (flat e rest ++ rows) (none_left (has q nodes) _ (none_right (eqb q id) _ h)) in
    let i : (best' : ℕ) × (row_last q d m.0 (flat e rest ++ rows) ≡ row_last q d best' rows) × (d ≤ e → best' ≡ m.0) = skip q d m.0 e rest rows (none_right (has q nodes) _ (none_right (eqb q id) _ h)) in (
      i.0,
      kept (eqb q id) _ _ (none_left (eqb q id) _ h) ∙ ap (row_last q d (cond (ltb e d) id best)) (append_assoc (flat (suc e) nodes) (flat e rest) rows) ∙ m.1 ∙ i.1,
      λ l. i.2 l ∙ m.2 (omega arith) ∙ kept (ltb e d) id best (not_high e d l),
    )

-- the parent of a node below the first row doesn't hang on what is round all
parent_deep : (q a b : ℕ) (f : Tree) → 2 ≤ depth q f → parent q a f ≡ parent q b f
parent_deep q a b none h = refl
parent_deep q a b (paint id look x rest) h = go (λ l. parent_deep q a b rest l) (eqb q id) h
  where
    go : (2 ≤ depth q rest → parent q a rest ≡ parent q b rest) → (t : Bool) → 2 ≤ cond t 1 (depth q rest) → cond t (Some a) (parent q a rest) ≡ cond t (Some b) (parent q b rest)
    go r true h = absurd (omega arith)
    go r false h = r h
parent_deep q a b (group id look nodes rest) h = go (λ l. parent_deep q a b rest l) (eqb q id) (has q nodes) h
  where
    go : (2 ≤ depth q rest → parent q a rest ≡ parent q b rest) → (t u : Bool) → 2 ≤ cond t 1 (cond u (suc (depth q nodes)) (depth q rest)) → cond t (Some a) (cond u (parent q id nodes) (parent q a rest)) ≡ cond t (Some b) (cond u (parent q id nodes) (parent q b rest))
    go r true u h = absurd (omega arith)
    go r false true h = refl
    go r false false h = r h

-- the row of the group is
high : (e d : ℕ) → d ≡ e + 1 → ltb e d ≡ true
high e d h = grind (arith, nat_tests)

-- with what was remembered, or where it doesn't count
remembered : (q a b d e : ℕ) (f : Tree) → has q f ≡ true → suc d ≡ e + depth q f → (d ≤ e → a ≡ b) → parent q a f ≡ parent q b f
remembered q a b d e f h at equal_test = go k.0 refl
  where
    k : (k : ℕ) × (suc k ≡ depth q f)
    k = depth_some q f h

    go : (n : ℕ) → k.0 ≡ n → parent q a f ≡ parent q b f
    go zero z = let one : depth q f ≡ 1 = sym k.1 ∙ ap suc z in let l : d ≤ e = omega arith in ap (λ n. parent q n f) (equal_test l)
    go (suc n) z = let two : depth q f ≡ suc (suc n) = sym k.1 ∙ ap suc z in parent_deep q a b f (omega arith)

-- it is the group round q
last_flat : (q d best e : ℕ) (f : Tree) (rows : Rows) → has q f ≡ true → suc d ≡ e + depth q f → row_last q d best (flat e f ++ rows) ≡ parent q best f
last_flat q d best e none rows h at = absurd (let t : false ≡ true = h in cc)
last_flat q d best e (paint id look x rest) rows h at = go (λ b g a. last_flat q d b e rest rows g a) (eqb q id) h at
  where
    go : ((b : ℕ) → has q rest ≡ true → suc d ≡ e + depth q rest → row_last q d b (flat e rest ++ rows) ≡ parent q b rest) → (t : Bool) → (t || has q rest) ≡ true → suc d ≡ e + cond t 1 (depth q rest)
        → cond t (Some best) (row_last q d (cond (ltb e d) id best) (flat e rest ++ rows)) ≡ cond t (Some best) (parent q best rest)
    go r true h at = refl
    go r false h at = r (cond (ltb e d) id best) h at ∙ remembered q (cond (ltb e d) id best) best d e rest h at (λ l. kept (ltb e d) id best (not_high e d l))
last_flat q d best e (group id look nodes rest) rows h at = go (λ b g a. last_flat q d b (suc e) nodes (flat e rest ++ rows) g a) (λ b g a. last_flat q d b e rest rows g a) (eqb q id) (has q nodes) refl h at
  where
    mid : ℕ
    mid = cond (ltb e d) id best

    all : Rows
    all = (flat (suc e) nodes ++ flat e rest) ++ rows

    assoc : all ≡ flat (suc e) nodes ++ (flat e rest ++ rows)
    assoc = append_assoc (flat (suc e) nodes) (flat e rest) rows

    go : ((b : ℕ) → has q nodes ≡ true → suc d ≡ suc e + depth q nodes → row_last q d b (flat (suc e) nodes ++ (flat e rest ++ rows)) ≡ parent q b nodes) → ((b : ℕ) → has q rest ≡ true → suc d ≡ e + depth q rest → row_last q d b (flat e rest ++ rows) ≡ parent q b rest)
        → (t u : Bool) → has q nodes ≡ u → (t || (u || has q rest)) ≡ true → suc d ≡ e + cond t 1 (cond u (suc (depth q nodes)) (depth q rest))
        → cond t (Some best) (row_last q d mid all) ≡ cond t (Some best) (cond u (parent q id nodes) (parent q best rest))
    go m r true u i h at = refl
    go m r false true i h at = ap (row_last q d mid) assoc ∙ m mid i (omega arith) ∙ remembered q mid id d (suc e) nodes i (omega arith) (λ l. here (ltb e d) (high e d (low l)))
      where
        low : d ≤ suc e → d ≡ e + 1
        low l = let k : (k : ℕ) × (suc k ≡ depth q nodes) = depth_some q nodes i in let n : suc k.0 ≡ depth q nodes = k.1 in omega arith

        here : (b : Bool) → b ≡ true → cond b id best ≡ id
        here b e = rw e refl
    go m r false false i h at =
        let s : (best' : ℕ) × (row_last q d mid (flat (suc e) nodes ++ (flat e rest ++ rows)) ≡ row_last q d best' (flat e rest ++ rows)) × (d ≤ suc e → best' ≡ mid) = skip q d mid (suc e) nodes (flat e rest ++ rows) i in
        ap (row_last q d mid) assoc ∙ s.1 ∙ r s.0 h at ∙ remembered q s.0 best d e rest h at (λ l. s.2 (omega arith) ∙ kept (ltb e d) id best (not_high e d l))

-- what is not there has no parent
pub parent_lost : (q a : ℕ) (f : Tree) → has q f ≡ false → parent q a f ≡ None
parent_lost q a none h = refl
parent_lost q a (paint id look x rest) h = kept (eqb q id) _ _ (none_left (eqb q id) _ h) ∙ parent_lost q a rest (none_right (eqb q id) _ h)
parent_lost q a (group id look nodes rest) h = kept (eqb q id) _ _ (none_left (eqb q id) _ h) ∙ kept (has q nodes) _ _ (none_left (has q nodes) _ (none_right (eqb q id) _ h)) ∙ parent_lost q a rest (none_right (has q nodes) _ (none_right (eqb q id) _ h))

-- the equal_test of nodes
last_rows : (q d best : ℕ) (nodes : List Node) → last_above q d best nodes ≡ row_last q d best (map row_of nodes)
last_rows q d best [] = refl
last_rows q d best (n ∷ ns) = ap (cond (eqb n.id q) (Some best)) (last_rows q d (cond (ltb n.depth d) n.id best) ns) ∙ ap (λ b. cond b (Some best) (row_last q d (cond (ltb n.depth d) n.id best) (map row_of ns))) (turned n.id q)

-- the last node above is the parent
pub parent_is : (q d : ℕ) (nodes : List Node) (t : Tree) → IsKept nodes → tree_of nodes ≡ t → suc d ≡ depth q t → last_above q d 0 nodes ≡ parent q 0 t
parent_is q d nodes t k is e = last_rows q d 0 nodes ∙ ap (row_last q d 0) (k.whole ∙ sym (append-nil (flat 0 (tree_of nodes)))) ∙ go (has q (tree_of nodes)) refl ∙ ap (parent q 0) is
  where
    go : (b : Bool) → has q (tree_of nodes) ≡ b → row_last q d 0 (flat 0 (tree_of nodes) ++ []) ≡ parent q 0 (tree_of nodes)
    go true h = let at : suc d ≡ depth q (tree_of nodes) = e ∙ ap (depth q) (sym is) in last_flat q d 0 0 (tree_of nodes) [] h (omega arith)
    go false h = (skip q d 0 0 (tree_of nodes) [] h).1 ∙ sym (parent_lost q 0 (tree_of nodes) h)

-- a node that is there has a parent
parented : (q a : ℕ) (f : Tree) → is_some (parent q a f) ≡ has q f
parented q a none = refl
parented q a (paint id look x rest) = go (eqb q id) (parented q a rest)
  where
    go : (b : Bool) → is_some (parent q a rest) ≡ has q rest → is_some (cond b (Some a) (parent q a rest)) ≡ (b || has q rest)
    go true e = refl
    go false e = e
parented q a (group id look nodes rest) = go (eqb q id) (has q nodes) refl (parented q id nodes) (parented q a rest)
  where
    go : (b t : Bool) → has q nodes ≡ t → is_some (parent q id nodes) ≡ has q nodes → is_some (parent q a rest) ≡ has q rest → is_some (cond b (Some a) (cond t (parent q id nodes) (parent q a rest))) ≡ (b || (t || has q rest))
    go true t i e h = refl
    go false true i e h = e ∙ i
    go false false i e h = h

-- a parent is None exactly where there is no such node
pub parent_absent_only : (q : ℕ) (t : Tree) (o : Option ℕ) → o ≡ parent q 0 t → IsNone o ↔ (has q t ≡ false)
parent_absent_only q t o e = none_only o (has q t) (ap is_some e ∙ parented q 0 t)
