-- What a new node makes of the tree.
use Rattle.std.proofs.Common.{◌≡◌, ◌≢◌, ℕ, ◌<◌, ◌≤◌, Bool, true, false, None, List, [], ◌∷◌, ◌++◌, map, length, take, drop, refl, sym, ap, ◌∙◌, arith, eqb}
use Rattle.std.specs.List.{insert}
use Rattle.std.proofs.lemmas.List.{map-append, take-map, drop-map}
use Rattle.std.proofs.lemmas.Bool.Decides.{nat_tests}
use Rattle.doc_model.specs.declared.tree.Change.TheVariants as change
use Rattle.doc_model.specs.Forest.{none, count, height, depth}
use Rattle.doc_model.specs.Flat.{flat, node}
use Rattle.doc_model.specs.Changes.{answer, set_in, no_new, new_look}
use Rattle.doc_model.specs.Ids.{IsTree}
use Rattle.doc_model.proofs.TreeChanges.{tree_changed, new_may}
use Rattle.doc_model.proofs.Heights.{height_changed}
use Rattle.tree_core.specs.declared.node.Node.{Node}
use Rattle.tree_core.specs.Nodes.{Tree, row_of, content_of, tree_of, at_place, IsKept}
use Rattle.tree_core.proofs.Kept.{tree_from, kept_from, count_is}
use Rattle.tree_core.proofs.Spots.{set_rows}
use Rattle.std.proofs.lemmas.Bool.{not-false}

-- the rows of nodes with one set in
insert_rows : (nodes : List Node) (i : ℕ) (x : Node) → map row_of (insert nodes i x) ≡ take i (map row_of nodes) ++ (row_of x ∷ drop i (map row_of nodes))
insert_rows nodes i x = map-append row_of (take i nodes) (x ∷ drop i nodes) ∙ ap (λ rs. rs ++ (row_of x ∷ map row_of (drop i nodes))) (sym (take-map row_of i nodes)) ∙ ap (λ rs. take i (map row_of nodes) ++ (row_of x ∷ rs)) (sym (drop-map row_of i nodes))

-- the tree of a new node alone
abbrev pub new_tree : Bool → ℕ → Tree
new_tree paints id = node (content_of paints) id new_look none none

-- a new node at the depth d
abbrev pub new_row : ℕ → ℕ → Bool → Node
new_row d id paints = record { depth = d; id = id; look = new_look; paints = paints }

-- its rows
one_row : (d id : ℕ) (paints : Bool) → row_of (new_row d id paints) ∷ [] ≡ flat d (new_tree paints id)
one_row d id true = refl
one_row d id false = refl

-- no id stands twice after it came
new_is_tree : (paints : Bool) (id q place : ℕ) (t : Tree) → no_new id q place t ≡ None → IsTree t → IsTree (set_in q place (new_tree paints id) t)
new_is_tree true id q place t ok once = tree_changed (λ _. tt) (change.Layer id q place Rattle.pixel_core.specs.Rgba.clear) t _ (ap (λ o. answer o (set_in q place (new_tree true id) t)) ok) once
new_is_tree false id q place t ok once = tree_changed (λ _. tt) (change.Group id q place) t _ (ap (λ o. answer o (set_in q place (new_tree false id) t)) ok) once

-- the tree stays low
new_is_low : (paints : Bool) (id q place : ℕ) (t : Tree) → no_new id q place t ≡ None → IsTree t → height t ≤ 16 → height (set_in q place (new_tree paints id) t) ≤ 16
new_is_low true id q place t ok once low = height_changed (λ _. tt) (change.Layer id q place Rattle.pixel_core.specs.Rgba.clear) t _ (ap (λ o. answer o (set_in q place (new_tree true id) t)) ok) once low
new_is_low false id q place t ok once low = height_changed (λ _. tt) (change.Group id q place) t _ (ap (λ o. answer o (set_in q place (new_tree false id) t)) ok) once low

-- the rows are those of the tree with the new node
new_flat : (id q place : ℕ) (paints : Bool) (nodes items : List Node) → IsKept nodes → no_new id q place (tree_of nodes) ≡ None → items ≡ insert nodes (at_place q place nodes) (new_row (depth q (tree_of nodes)) id paints)
    → map row_of items ≡ flat 0 (set_in q place (new_tree paints id) (tree_of nodes))
new_flat id q place paints nodes items k ok e =
    ap (map row_of) e ∙ insert_rows nodes (at_place q place nodes) (new_row (depth q (tree_of nodes)) id paints)
    ∙ ap (λ rs. take (at_place q place nodes) (map row_of nodes) ++ (rs ++ drop (at_place q place nodes) (map row_of nodes))) (one_row (depth q (tree_of nodes)) id paints)
    ∙ set_rows q place (new_tree paints id) nodes k (not-false _ (new_may id q place (tree_of nodes) ok).2)

-- so the nodes stand for that tree
pub new_kept : (id q place : ℕ) (paints : Bool) (nodes items : List Node) (t : Tree) (i : ℕ) (x : Node) → IsKept nodes → tree_of nodes ≡ t → no_new id q place t ≡ None → i ≡ at_place q place nodes → x ≡ new_row (depth q t) id paints → items ≡ insert nodes i x
    → IsKept items × (tree_of items ≡ set_in q place (new_tree paints id) t)
new_kept id q place paints nodes items t i x k is ok at there e =
    let ok' : no_new id q place (tree_of nodes) ≡ None = ap (no_new id q place) is ∙ ok in
    let e' : items ≡ insert nodes (at_place q place nodes) (new_row (depth q (tree_of nodes)) id paints) = e ∙ ap (λ n. insert nodes n x) at ∙ ap (insert nodes (at_place q place nodes)) (there ∙ ap (λ y. new_row (depth q y) id paints) (sym is)) in
    let rows : map row_of items ≡ flat 0 (set_in q place (new_tree paints id) (tree_of nodes)) = new_flat id q place paints nodes items k ok' e' in (
      kept_from items (set_in q place (new_tree paints id) (tree_of nodes)) rows (new_is_tree paints id q place (tree_of nodes) ok' k.once) (new_is_low paints id q place (tree_of nodes) ok' k.once k.low),
      tree_from items (set_in q place (new_tree paints id) (tree_of nodes)) rows ∙ ap (set_in q place (new_tree paints id)) is,
    )

-- there is room for it
pub room : (id q place : ℕ) (nodes : List Node) (t : Tree) → IsKept nodes → tree_of nodes ≡ t → no_new id q place t ≡ None → length nodes ≤ 256 → length nodes < 256
room id q place nodes t k is ok few =
    let e : length nodes ≡ count t = count_is nodes k ∙ ap count is in
    let n : count t ≢ 256 = unequal (count t) (new_may id q place t ok).3 in
    omega arith
  where
    unequal : (n : ℕ) → eqb n 256 ≡ false → n ≢ 256
    unequal n e = grind (arith, nat_tests)
