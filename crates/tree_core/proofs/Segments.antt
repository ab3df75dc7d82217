-- The nodes of one node with those below it.
use Rattle.std.proofs.Common.{◌≡◌, ℕ, suc, ◌+◌, ◌-◌, ◌<◌, Bool, true, false, ◌||◌, cond, Some, None, List, [], ◌∷◌, ◌++◌, map, refl, sym, ap, ◌∙◌, arith, eqb, ltb, append_assoc, append-nil}
use Rattle.std.proofs.lemmas.Bool.Decides.{nat_tests}
use Rattle.geom_core.proofs.Tests.{taken, kept, none_left, none_right}
use Rattle.doc_model.specs.Forest.{none, paint, group, has, depth, join, only}
use Rattle.doc_model.specs.Flat.{Row, flat, EndsAt, ends_below}
use Rattle.doc_model.proofs.Parents.{Distinct}
use Rattle.doc_model.proofs.Weights.{tree_distinct}
use Rattle.doc_model.proofs.Paths.{join_none}
use Rattle.tree_core.specs.declared.node.Node.{Node}
use Rattle.tree_core.specs.Nodes.{Tree, rows_of, row_of, tree_of, IsKept}
use Rattle.tree_core.proofs.Choices.{turned}
use Rattle.tree_core.proofs.Kept.{Rows}
use Rattle.tree_core.proofs.Depths.{depth_some}
use Rattle.tree_core.proofs.Passes.{deeper, part}

-- the deeper rows at the front
abbrev row_deeper : ℕ → Rows → Rows
row_deeper d [] = []
row_deeper d (r ∷ rs) = cond (ltb d r.depth) (r ∷ row_deeper d rs) []

-- the row of q with the deeper ones after it
abbrev row_part : ℕ → Rows → Rows
row_part q [] = []
row_part q (r ∷ rs) = cond (eqb q r.id) (r ∷ row_deeper r.depth rs) (row_part q rs)

-- the test of a deeper row
less : (d j : ℕ) → d < j → ltb d j ≡ true
less d j h = grind (arith, nat_tests)

-- the test of a row that isn't deeper
not_less : (d j : ℕ) → j < suc d → ltb d j ≡ false
not_less d j h = grind (arith, nat_tests)

-- all rows of a deeper forest are taken
deeper_all : (d j : ℕ) (f : Tree) (rows : Rows) → d < j → row_deeper d (flat j f ++ rows) ≡ flat j f ++ row_deeper d rows
deeper_all d j none rows h = refl
deeper_all d j (paint id look x rest) rows h = taken (ltb d j) _ _ (less d j h) ∙ ap (λ rs. record { depth = j; id = id; look = look; content = Some x } ∷ rs) (deeper_all d j rest rows h)
deeper_all d j (group id look nodes rest) rows h = taken (ltb d j) _ _ (less d j h) ∙ ap (λ rs. record { depth = j; id = id; look = look; content = None } ∷ rs)
    (ap (row_deeper d) (append_assoc (flat (suc j) nodes) (flat j rest) rows) ∙ deeper_all d (suc j) nodes (flat j rest ++ rows) (omega arith) ∙ ap (λ rs. flat (suc j) nodes ++ rs) (deeper_all d j rest rows h) ∙ sym (append_assoc (flat (suc j) nodes) (flat j rest) (row_deeper d rows)))

-- a row that isn't deeper ends them
deeper_ends : (d : ℕ) (rows : Rows) → EndsAt (suc d) rows → row_deeper d rows ≡ []
deeper_ends d [] h = refl
deeper_ends d (r ∷ rs) h = kept (ltb d r.depth) _ _ (not_less d r.depth h)

-- nothing of a node that isn't there
pub only_absent : (q : ℕ) (f : Tree) → has q f ≡ false → only q f ≡ none
only_absent q none h = refl
only_absent q (paint id look x rest) h = kept (eqb q id) _ _ (none_left (eqb q id) _ h) ∙ only_absent q rest (none_right (eqb q id) _ h)
only_absent q (group id look nodes rest) h = kept (eqb q id) _ _ (none_left (eqb q id) _ h) ∙ ap (λ a. join a (only q rest)) (only_absent q nodes (none_left (has q nodes) _ (none_right (eqb q id) _ h))) ∙ only_absent q rest (none_right (has q nodes) _ (none_right (eqb q id) _ h))

-- rows among which q is not are passed over
part_skip : (q d : ℕ) (f : Tree) (rows : Rows) → has q f ≡ false → row_part q (flat d f ++ rows) ≡ row_part q rows
part_skip q d none rows h = refl
part_skip q d (paint id look x rest) rows h = kept (eqb q id) _ _ (none_left (eqb q id) _ h) ∙ part_skip q d rest rows (none_right (eqb q id) _ h)
part_skip q d (group id look nodes rest) rows h = kept (eqb q id) _ _ (none_left (eqb q id) _ h) ∙ ap (row_part q) (append_assoc (flat (suc d) nodes) (flat d rest) rows)
    ∙ part_skip q (suc d) nodes (flat d rest ++ rows) (none_left (has q nodes) _ (none_right (eqb q id) _ h)) ∙ part_skip q d rest rows (none_right (has q nodes) _ (none_right (eqb q id) _ h))

-- the rows of q and those below it
part_flat : (q d k : ℕ) (f : Tree) (rows : Rows) → Distinct f → has q f ≡ true → EndsAt d rows → suc k ≡ d + depth q f → row_part q (flat d f ++ rows) ≡ flat k (only q f)
part_flat q d k none rows dis h ends at = absurd (let t : false ≡ true = h in cc)
part_flat q d k (paint id look x rest) rows dis h ends at = go (λ g a. part_flat q d k rest rows dis.1 g ends a) (eqb q id) refl h at
  where
    r : Row (Unit {0})
    r = record { depth = d; id = id; look = look; content = Some x }

    go : (has q rest ≡ true → suc k ≡ d + depth q rest → row_part q (flat d rest ++ rows) ≡ flat k (only q rest)) → (b : Bool) → eqb q id ≡ b → (b || has q rest) ≡ true → suc k ≡ d + cond b 1 (depth q rest)
        → cond b (r ∷ row_deeper d (flat d rest ++ rows)) (row_part q (flat d rest ++ rows)) ≡ flat k (cond b (paint id look x none) (only q rest))
    go n true e h at = let is : d ≡ k = omega arith in ap (λ rs. r ∷ rs) (deeper_ends d (flat d rest ++ rows) (ends_below d rest rows ends)) ∙ ap (λ l. record { depth = l; id = id; look = look; content = Some x } ∷ []) is
    go n false e h at = n h at
part_flat q d k (group id look nodes rest) rows dis h ends at =
    go (λ g a. part_flat q (suc d) k nodes (flat d rest ++ rows) dis.3 g (ends_below d rest rows ends) a) (λ g a. part_flat q d k rest rows dis.4 g ends a) (eqb q id) refl (has q nodes) refl h at
  where
    r : Row (Unit {0})
    r = record { depth = d; id = id; look = look; content = None }

    all : Rows
    all = (flat (suc d) nodes ++ flat d rest) ++ rows

    assoc : all ≡ flat (suc d) nodes ++ (flat d rest ++ rows)
    assoc = append_assoc (flat (suc d) nodes) (flat d rest) rows

    go : (has q nodes ≡ true → suc k ≡ suc d + depth q nodes → row_part q (flat (suc d) nodes ++ (flat d rest ++ rows)) ≡ flat k (only q nodes)) → (has q rest ≡ true → suc k ≡ d + depth q rest → row_part q (flat d rest ++ rows) ≡ flat k (only q rest))
        → (b : Bool) → eqb q id ≡ b → (t : Bool) → has q nodes ≡ t → (b || (t || has q rest)) ≡ true → suc k ≡ d + cond b 1 (cond t (suc (depth q nodes)) (depth q rest))
        → cond b (r ∷ row_deeper d all) (row_part q all) ≡ flat k (cond b (group id look nodes none) (join (only q nodes) (only q rest)))
    go m n true e t i h at =
        let is : d ≡ k = omega arith in
        ap (λ rs. r ∷ rs) (ap (row_deeper d) assoc ∙ deeper_all d (suc d) nodes (flat d rest ++ rows) (omega arith) ∙ ap (λ rs. flat (suc d) nodes ++ rs) (deeper_ends d (flat d rest ++ rows) (ends_below d rest rows ends)))
        ∙ ap (λ l. record { depth = l; id = id; look = look; content = None } ∷ (flat (suc l) nodes ++ [])) is
    go m n false e true i h at = ap (row_part q) assoc ∙ m i (omega arith) ∙ ap (flat k) (sym (ap (join (only q nodes)) (only_absent q rest (dis.2 q i)) ∙ join_none (only q nodes)))
    go m n false e false i h at = ap (row_part q) assoc ∙ part_skip q (suc d) nodes (flat d rest ++ rows) i ∙ n h at ∙ ap (flat k) (sym (ap (λ a. join a (only q rest)) (only_absent q nodes i)))

-- of nodes
deeper_rows : (d : ℕ) (nodes : List Node) → map row_of (deeper d nodes) ≡ row_deeper d (map row_of nodes)
deeper_rows d [] = refl
deeper_rows d (n ∷ ns) = go (ltb d n.depth) (deeper_rows d ns)
  where
    go : (b : Bool) → map row_of (deeper d ns) ≡ row_deeper d (map row_of ns) → map row_of (cond b (n ∷ deeper d ns) []) ≡ cond b (row_of n ∷ row_deeper d (map row_of ns)) []
    go true e = ap (λ rs. row_of n ∷ rs) e
    go false e = refl

-- and of the part
part_rows : (q : ℕ) (nodes : List Node) → map row_of (part q nodes) ≡ row_part q (map row_of nodes)
part_rows q [] = refl
part_rows q (n ∷ ns) = go (eqb n.id q) (part_rows q ns) ∙ ap (λ b. cond b (row_of n ∷ row_deeper n.depth (map row_of ns)) (row_part q (map row_of ns))) (turned n.id q)
  where
    go : (b : Bool) → map row_of (part q ns) ≡ row_part q (map row_of ns) → map row_of (cond b (n ∷ deeper n.depth ns) (part q ns)) ≡ cond b (row_of n ∷ row_deeper n.depth (map row_of ns)) (row_part q (map row_of ns))
    go true e = ap (λ rs. row_of n ∷ rs) (deeper_rows n.depth ns)
    go false e = e

-- the part of a node that is there
part_is : (q k : ℕ) (nodes : List Node) → IsKept nodes → has q (tree_of nodes) ≡ true → suc k ≡ depth q (tree_of nodes) → map row_of (part q nodes) ≡ flat k (only q (tree_of nodes))
part_is q k nodes kept h at = part_rows q nodes ∙ ap (row_part q) (kept.whole ∙ sym (append-nil (flat 0 (tree_of nodes)))) ∙ part_flat q 0 k (tree_of nodes) [] (tree_distinct (tree_of nodes) kept.once) h tt (omega arith)

-- the part of a node that isn't
part_none : (q : ℕ) (nodes : List Node) → IsKept nodes → has q (tree_of nodes) ≡ false → map row_of (part q nodes) ≡ []
part_none q nodes kept h = part_rows q nodes ∙ ap (row_part q) (kept.whole ∙ sym (append-nil (flat 0 (tree_of nodes)))) ∙ part_skip q 0 (tree_of nodes) [] h

-- the node with those below it, or nothing where it isn't there
pub part_only : (q : ℕ) (nodes : List Node) → IsKept nodes → rows_of (part q nodes) ≡ flat (depth q (tree_of nodes) - 1) (only q (tree_of nodes))
part_only q nodes k = go (has q (tree_of nodes)) refl
  where
    t : Tree
    t = tree_of nodes

    minus : (m n : ℕ) → suc m ≡ n → m ≡ n - 1
    minus m n e = omega arith

    go : (b : Bool) → has q t ≡ b → rows_of (part q nodes) ≡ flat (depth q t - 1) (only q t)
    go true h = let s : (m : ℕ) × (suc m ≡ depth q t) = depth_some q t h in part_is q s.0 nodes k h s.1 ∙ ap (λ n. flat n (only q t)) (minus s.0 (depth q t) s.1)
    go false h = part_none q nodes k h ∙ sym (ap (flat (depth q t - 1)) (only_absent q t h))
