-- What a look-up by an id comes to.
use Rattle.std.proofs.Common.{◌≡◌, ℕ, suc, Bool, true, false, ◌&&◌, ◌||◌, not, cond, Option, IsNone, ◌↔◌, Some, None, is_some, List, [], ◌∷◌, ◌++◌, map, refl, sym, ap, ◌∙◌, eqb, append_assoc, append-nil}
use Rattle.std.specs.List.{list_any}
use Rattle.std.proofs.lemmas.List.Folds.{list_any-append}
use Rattle.doc_model.specs.declared.tree.Look.{Look}
use Rattle.doc_model.specs.Forest.{none, paint, group, has, is_group, or_else}
use Rattle.doc_model.specs.Flat.{Row, flat}
use Rattle.tree_core.specs.declared.node.Node.{Node}
use Rattle.tree_core.specs.Nodes.{Tree, row_of, content_of, tree_of, IsKept}
use Rattle.doc_model.specs.Children.{look_in}
use Rattle.tree_core.proofs.Choices.{turned, none_only}
use Rattle.tree_core.proofs.Kept.{Rows}
use Rattle.tree_core.proofs.Passes.{first_with}
use Rattle.geom_core.proofs.Tests.{and-true, and-false}

-- whether a row has the id q
abbrev pub any_row : ℕ → Rows → Bool
any_row q rows = list_any (λ r. eqb q r.id) rows

-- as the tree has
pub any_flat : (q d : ℕ) (f : Tree) → any_row q (flat d f) ≡ has q f
any_flat q d none = refl
any_flat q d (paint id look x rest) = ap (λ b. eqb q id || b) (any_flat q d rest)
any_flat q d (group id look nodes rest) = ap (λ b. eqb q id || b) (list_any-append (λ r. eqb q r.id) (flat (suc d) nodes) (flat d rest) ∙ ap (λ b. b || any_row q (flat d rest)) (any_flat q (suc d) nodes) ∙ ap (λ b. has q nodes || b) (any_flat q d rest))

-- a node is found where a row has the id
pub found_any : (q : ℕ) (nodes : List Node) → is_some (first_with q nodes) ≡ any_row q (map row_of nodes)
found_any q [] = refl
found_any q (n ∷ ns) = go (eqb n.id q) (found_any q ns) ∙ ap (λ b. b || any_row q (map row_of ns)) (turned n.id q)
  where
    go : (b : Bool) → is_some (first_with q ns) ≡ any_row q (map row_of ns) → is_some (cond b (Some n) (first_with q ns)) ≡ (b || any_row q (map row_of ns))
    go true e = refl
    go false e = e

-- a node is found where the tree has it
pub found_has : (q : ℕ) (nodes : List Node) → IsKept nodes → is_some (first_with q nodes) ≡ has q (tree_of nodes)
found_has q nodes k = found_any q nodes ∙ ap (any_row q) k.whole ∙ any_flat q 0 (tree_of nodes)

-- whether a group has the id q
abbrev pub group_with : ℕ → List Node → Bool
group_with q nodes = list_any (λ n. eqb n.id q && not n.paints) nodes

-- groups
abbrev is_none' : Option (Unit {0}) → Bool
is_none' None = true
is_none' (Some x) = false

-- whether a group's row has the id q
abbrev group_row : ℕ → Rows → Bool
group_row q rows = list_any (λ r. eqb q r.id && is_none' r.content) rows

-- as the tree has
group_flat : (q d : ℕ) (f : Tree) → group_row q (flat d f) ≡ is_group q f
group_flat q d none = refl
group_flat q d (paint id look x rest) = ap (λ b. b || group_row q (flat d rest)) (and-false (eqb q id)) ∙ group_flat q d rest
group_flat q d (group id look nodes rest) = ap (λ b. b || group_row q (flat (suc d) nodes ++ flat d rest)) (and-true (eqb q id))
    ∙ ap (λ b. eqb q id || b) (list_any-append (λ r. eqb q r.id && is_none' r.content) (flat (suc d) nodes) (flat d rest) ∙ ap (λ b. b || group_row q (flat d rest)) (group_flat q (suc d) nodes) ∙ ap (λ b. is_group q nodes || b) (group_flat q d rest))

-- a node that is no paint layer has no content
no_paint : (b : Bool) → not b ≡ is_none' (content_of b)
no_paint true = refl
no_paint false = refl

-- the same of nodes
group_rows : (q : ℕ) (nodes : List Node) → group_with q nodes ≡ group_row q (map row_of nodes)
group_rows q [] = refl
group_rows q (n ∷ ns) = ap (λ b. (b && not n.paints) || group_with q ns) (turned n.id q) ∙ ap (λ b. (eqb q n.id && b) || group_with q ns) (no_paint n.paints) ∙ ap (λ b. (eqb q n.id && is_none' (content_of n.paints)) || b) (group_rows q ns)

-- a group is found where the tree has it
pub group_is : (q : ℕ) (nodes : List Node) → IsKept nodes → group_with q nodes ≡ is_group q (tree_of nodes)
group_is q nodes k = group_rows q nodes ∙ ap (group_row q) k.whole ∙ group_flat q 0 (tree_of nodes)

-- the look of what was found
abbrev pub look_of : Option Node → Option Look
look_of None = None
look_of (Some n) = Some n.look

-- looks
abbrev row_look : ℕ → List (Row (Unit {0})) → Option Look
row_look q [] = None
row_look q (r ∷ rs) = cond (eqb q r.id) (Some r.look) (row_look q rs)

-- a choice whose second is None
or_else_none : (o : Option Look) → or_else o None ≡ o
or_else_none None = refl
or_else_none (Some x) = refl

-- choices in a row
or_else_assoc : (a b c : Option Look) → or_else a (or_else b c) ≡ or_else (or_else a b) c
or_else_assoc None b c = refl
or_else_assoc (Some x) b c = refl

-- the look of a row is the tree's, else that of the rows after it
row_look_flat : (q d : ℕ) (f : Tree) (rows : List (Row (Unit {0}))) → row_look q (flat d f ++ rows) ≡ or_else (look_in q f) (row_look q rows)
row_look_flat q d none rows = refl
row_look_flat q d (paint id look x rest) rows = go (eqb q id) (row_look_flat q d rest rows)
  where
    go : (b : Bool) → row_look q (flat d rest ++ rows) ≡ or_else (look_in q rest) (row_look q rows) → cond b (Some look) (row_look q (flat d rest ++ rows)) ≡ or_else (cond b (Some look) (look_in q rest)) (row_look q rows)
    go true e = refl
    go false e = e
row_look_flat q d (group id look nodes rest) rows = go (eqb q id) (ap (row_look q) (append_assoc (flat (suc d) nodes) (flat d rest) rows) ∙ row_look_flat q (suc d) nodes (flat d rest ++ rows) ∙ ap (or_else (look_in q nodes)) (row_look_flat q d rest rows) ∙ or_else_assoc (look_in q nodes) (look_in q rest) (row_look q rows))
  where
    go : (b : Bool) → row_look q ((flat (suc d) nodes ++ flat d rest) ++ rows) ≡ or_else (or_else (look_in q nodes) (look_in q rest)) (row_look q rows)
        → cond b (Some look) (row_look q ((flat (suc d) nodes ++ flat d rest) ++ rows)) ≡ or_else (cond b (Some look) (or_else (look_in q nodes) (look_in q rest))) (row_look q rows)
    go true e = refl
    go false e = e

-- the same of nodes
look_rows : (q : ℕ) (nodes : List Node) → look_of (first_with q nodes) ≡ row_look q (map row_of nodes)
look_rows q [] = refl
look_rows q (n ∷ ns) = go (eqb n.id q) (look_rows q ns) ∙ ap (λ b. cond b (Some n.look) (row_look q (map row_of ns))) (turned n.id q)
  where
    go : (b : Bool) → look_of (first_with q ns) ≡ row_look q (map row_of ns) → look_of (cond b (Some n) (first_with q ns)) ≡ cond b (Some n.look) (row_look q (map row_of ns))
    go true e = refl
    go false e = e

-- the look that is found is the tree's
pub look_is : (q : ℕ) (nodes : List Node) → IsKept nodes → look_of (first_with q nodes) ≡ look_in q (tree_of nodes)
look_is q nodes k = look_rows q nodes ∙ ap (row_look q) (k.whole ∙ sym (append-nil (flat 0 (tree_of nodes)))) ∙ row_look_flat q 0 (tree_of nodes) [] ∙ or_else_none (look_in q (tree_of nodes))

-- what the look of a found node is
pub look_now : (q : ℕ) (nodes : List Node) (t : Tree) → IsKept nodes → tree_of nodes ≡ t → (o : Option Node) → first_with q nodes ≡ o → look_of o ≡ look_in q t
look_now q nodes t k is o e = ap look_of (sym e) ∙ look_is q nodes k ∙ ap (look_in q) is

-- a node that is there has a look
looked : (q : ℕ) (f : Tree) → is_some (look_in q f) ≡ has q f
looked q none = refl
looked q (paint id look x rest) = go (eqb q id) (looked q rest)
  where
    go : (b : Bool) → is_some (look_in q rest) ≡ has q rest → is_some (cond b (Some look) (look_in q rest)) ≡ (b || has q rest)
    go true e = refl
    go false e = e
looked q (group id look nodes rest) = go (eqb q id) (looked q nodes) (looked q rest)
  where
    either : (a b : Option Look) → is_some (or_else a b) ≡ (is_some a || is_some b)
    either None b = refl
    either (Some x) b = refl

    go : (b : Bool) → is_some (look_in q nodes) ≡ has q nodes → is_some (look_in q rest) ≡ has q rest → is_some (cond b (Some look) (or_else (look_in q nodes) (look_in q rest))) ≡ (b || (has q nodes || has q rest))
    go true e h = refl
    go false e h = either (look_in q nodes) (look_in q rest) ∙ ap (λ x. x || is_some (look_in q rest)) e ∙ ap (λ x. has q nodes || x) h

-- a look is None exactly where there is no such node
pub look_absent : (q : ℕ) (t : Tree) (o : Option Look) → o ≡ look_in q t → IsNone o ↔ (has q t ≡ false)
look_absent q t o e = none_only o (has q t) (ap is_some e ∙ looked q t)
