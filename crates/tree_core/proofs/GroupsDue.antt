-- A pass over the rows of a tree, and the groups that are still to come.
use Rattle.std.proofs.Common.{◌≡◌, ◌≢◌, ℕ, suc, ◌+◌, ◌<◌, ◌≤◌, Bool, true, false, List, [], ◌∷◌, ◌++◌, length, take, drop, get_or, Option, Some, None, is_some, refl, sym, ap, ◌∙◌, arith, eqb, ltb}
use Rattle.std.proofs.lemmas.Bool.Decides.{nat_tests}
use Rattle.std.proofs.lemmas.List.{take_more, append_assoc, append-nil, length-append, length-take-le}
use Rattle.geom_core.proofs.Tests.{taken, kept}
use Rattle.doc_model.specs.declared.tree.Look.{Look}
use Rattle.doc_model.specs.Forest.{Forest, none}
use Rattle.doc_model.specs.Readers.{order}
use Rattle.doc_model.specs.Flat.{Row, node, read, EndsAt}
use Rattle.tree_core.specs.declared.node.Node.{Node}
use Rattle.tree_core.specs.Nodes.{Tree, row_of, rows_of, content_of, tree_of}
use Rattle.tree_core.specs.Around.{due}
use Rattle.tree_core.proofs.Passes.{next_node}

module _ {A : Type 0} where
  pub read_there : (d : ℕ) (row : Row A) (rows : List (Row A)) → row.depth ≡ d → read d (row ∷ rows) ≡ node row.content row.id row.look (read (suc d) rows) (read d rows)
  read_there d row rows e = taken (eqb row.depth d) _ _ (grind (arith, nat_tests))

  pub read_below : (d : ℕ) (row : Row A) (rows : List (Row A)) → d < row.depth → read d (row ∷ rows) ≡ read d rows
  read_below d row rows h = kept (eqb row.depth d) _ _ (grind (arith, nat_tests)) ∙ taken (ltb d row.depth) _ _ (grind (arith, nat_tests))

  pub read_above : (d : ℕ) (rows : List (Row A)) → EndsAt d rows → read d rows ≡ none
  read_above d [] h = refl
  read_above d (row ∷ rows) h = kept (eqb row.depth d) _ _ (grind (arith, nat_tests)) ∙ kept (ltb d row.depth) _ _ (grind (arith, nat_tests))

  pub ends_more : (m n : ℕ) (rows : List (Row A)) → m ≤ n → EndsAt m rows → EndsAt n rows
  ends_more m n [] h e = tt
  ends_more m n (row ∷ rows) h e = omega arith

  order_paint : (o : Option A) (id : ℕ) (look : Look) (a b : Forest A) → is_some o ≡ true → order (node o id look a b) ≡ order b
  order_paint None id look a b h = absurd (cc)
  order_paint (Some x) id look a b h = refl

  order_group : (o : Option A) (id : ℕ) (look : Look) (a b : Forest A) → is_some o ≡ false → order (node o id look a b) ≡ order a ++ id ∷ order b
  order_group None id look a b h = refl
  order_group (Some x) id look a b h = absurd (cc)

  -- a paint layer, or a row below those that stand right in the innermost group, adds none
  skipped : (d : ℕ) (gs : List ℕ) (row : Row A) (rows : List (Row A)) → d + length gs ≤ row.depth → (d + length gs ≡ row.depth → is_some row.content ≡ true) → due d gs (row ∷ rows) ≡ due d gs rows
  skipped d [] row rows low h = go (eqb row.depth d) refl
    where
      go : (b : Bool) → eqb row.depth d ≡ b → order (read d (row ∷ rows)) ≡ order (read d rows)
      go true e = let there : row.depth ≡ d = grind (arith, nat_tests) in ap order (read_there d row rows there) ∙ order_paint row.content row.id row.look _ _ (h (omega arith))
      go false e = let apart : row.depth ≢ d = grind (arith, nat_tests) in ap order (read_below d row rows (omega arith))
  skipped d (g ∷ gs) row rows low h = λ i. skipped (suc d) gs row rows (omega arith) (λ e. h (omega arith)) i ++ g ∷ order (read_below d row rows (omega arith) i)

  -- a group right in the innermost group stands round what comes next
  entered : (d : ℕ) (gs : List ℕ) (row : Row A) (rows : List (Row A)) → d + length gs ≡ row.depth → is_some row.content ≡ false → due d gs (row ∷ rows) ≡ due d (gs ++ row.id ∷ []) rows
  entered d [] row rows e h = ap order (read_there d row rows (omega arith)) ∙ order_group row.content row.id row.look _ _ h
  entered d (g ∷ gs) row rows e h = λ i. entered (suc d) gs row rows (omega arith) h i ++ g ∷ order (read_below d row rows (omega arith) i)

  -- where nothing more comes in it, the innermost group comes next
  left : (d n : ℕ) (gs : List ℕ) (g : ℕ) (rows : List (Row A)) → n ≡ d + length gs → EndsAt (suc n) rows → due d (gs ++ g ∷ []) rows ≡ g ∷ due d gs rows
  left d n [] g rows e h = ap (λ f. order f ++ g ∷ order (read d rows)) (read_above (suc d) rows (ends_more (suc n) (suc d) rows (omega arith) h))
  left d n (p ∷ gs) g rows e h = ap (λ t. t ++ p ∷ order (read d rows)) (left (suc d) n gs g rows (omega arith) h)

-- the rows of trees without pixels
abbrev pub Rows : Type 0
Rows = List (Row (Unit {0}))

longer : (new old : List ℕ) (x : ℕ) → new ≡ old ++ x ∷ [] → length new ≡ length old + 1
longer new old x e = let n : length new ≡ length old + length (x ∷ []) = ap length e ∙ length-append old (x ∷ []) in omega arith

-- one group is left, and those round it stay
pub left_more : (around now new groups : List ℕ) (depth m n count : ℕ) → m ≡ n + 1 → n < length around → depth ≤ n → new ≡ now ++ get_or around n 0 ∷ [] → m + length now ≡ count
    → ((rows : Rows) → EndsAt (suc depth) rows → now ++ due 0 (take m around) rows ≡ groups ++ due 0 around rows)
    → (n ≤ length around) × ((n + length new ≡ count) × ((rows : Rows) → EndsAt (suc depth) rows → new ++ due 0 (take n around) rows ≡ groups ++ due 0 around rows))
left_more around now new groups depth m n count is h low e counted so_far =
    let one : length new ≡ length now + 1 = longer new now (get_or around n 0) e in (
      omega arith,
      (
        omega arith,
        λ rows ends.
            ap (λ t. t ++ due 0 (take n around) rows) e
            ∙ append_assoc now (get_or around n 0 ∷ []) (due 0 (take n around) rows)
            ∙ ap (λ t. now ++ t) (sym (ap (λ gs. due 0 gs rows) (ap (λ k. take k around) is ∙ take_more around n 0 h) ∙ left 0 (length (take n around)) (take n around) (get_or around n 0) rows (omega arith) (ends_more (suc depth) (suc (length (take n around))) rows few ends)))
            ∙ so_far rows ends,
      ),
    )
  where
    few : suc depth ≤ suc (length (take n around))
    few = let k : length (take n around) ≡ n = length-take-le n around (omega arith) in omega arith

pub content_some : (paints : Bool) → is_some (content_of paints) ≡ paints
content_some true = refl
content_some false = refl

pub layer_passed : (n : Node) (around : List ℕ) (rows : Rows) → n.paints ≡ true → length around ≤ n.depth → due 0 around rows ≡ due 0 around (row_of n ∷ rows)
layer_passed n around rows e h = sym (skipped 0 around (row_of n) rows (omega arith) (λ _. content_some n.paints ∙ e))

pub deep_passed : (n : Node) (around : List ℕ) (rows : Rows) → length around ≢ n.depth → length around ≤ n.depth → due 0 around rows ≡ due 0 around (row_of n ∷ rows)
deep_passed n around rows e h = sym (skipped 0 around (row_of n) rows (omega arith) (λ f. absurd (e (omega arith))))

pub group_entered : (n : Node) (around new : List ℕ) (rows : Rows) → n.paints ≡ false → length around ≡ n.depth → new ≡ around ++ n.id ∷ [] → due 0 new rows ≡ due 0 around (row_of n ∷ rows)
group_entered n around new rows e h f = ap (λ gs. due 0 gs rows) f ∙ sym (entered 0 around (row_of n) rows (omega arith) (content_some n.paints ∙ e))

-- one node more is passed
pub node_passed : (nodes : List Node) (i : ℕ) (d : Node) (around groups around' groups' all : List ℕ) → i < length nodes → ((rows : Rows) → groups' ++ due 0 around' rows ≡ groups ++ due 0 around (row_of (get_or nodes i d) ∷ rows))
    → groups ++ due 0 around (rows_of (drop i nodes)) ≡ all → groups' ++ due 0 around' (rows_of (drop (i + 1) nodes)) ≡ all
node_passed nodes i d around groups around' groups' all h step so_far = step (rows_of (drop (i + 1) nodes)) ∙ ap (λ ns. groups ++ due 0 around (rows_of ns)) (sym (next_node nodes i d h)) ∙ so_far

-- before the first node none is passed
pub none_passed : (nodes : List Node) (around groups : List ℕ) → around ≡ [] → groups ≡ [] → (length around + length groups ≤ 0) × (groups ++ due 0 around (rows_of (drop 0 nodes)) ≡ order (tree_of nodes))
none_passed nodes around groups e f =
    let a : length around ≡ 0 = ap length e in
    let g : length groups ≡ 0 = ap length f in
    (omega arith, λ i. f i ++ due 0 (e i) (rows_of nodes))

-- after the last one all groups round it are left
pub all_passed : (around groups last : List ℕ) (t : Tree) (rest : List Node) → rest ≡ [] → groups ++ due 0 around (rows_of rest) ≡ order t → length last ≤ 0 → (new : List ℕ) → new ++ due {A = Unit {0}} 0 last [] ≡ groups ++ due {A = Unit {0}} 0 around [] → new ≡ order t
all_passed around groups [] t rest e so_far none_left new f = sym (append-nil new) ∙ f ∙ ap (λ ns. groups ++ due 0 around (rows_of ns)) (sym e) ∙ so_far
all_passed around groups (g ∷ gs) t rest e so_far none_left new f = absurd (omega arith)
