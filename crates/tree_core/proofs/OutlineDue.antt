-- A pass over the rows of a tree, and what of its outline is still to come.
use Rattle.std.proofs.Common.{◌≡◌, ◌≢◌, ℕ, suc, ◌+◌, ◌<◌, ◌≤◌, Bool, true, false, List, [], ◌∷◌, ◌++◌, length, take, drop, get_or, Option, Some, None, is_some, refl, sym, ap, ◌∙◌, arith, eqb}
use Rattle.std.proofs.lemmas.Bool.Decides.{nat_tests}
use Rattle.std.proofs.lemmas.List.{take_more, append_assoc, append-nil, length-take-le}
use Rattle.geom_core.proofs.Tests.{taken, kept}
use Rattle.doc_model.specs.declared.tree.Look.{Look}
use Rattle.doc_model.specs.Forest.{Forest}
use Rattle.doc_model.specs.Flat.{Row, node, read, EndsAt}
use Rattle.tree_core.specs.declared.node.Node.{Node}
use Rattle.tree_core.specs.declared.outline.Stage.{Stage}
use Rattle.tree_core.specs.declared.outline.Stage.TheVariants.{Layer, Open, Close}
use Rattle.tree_core.specs.Nodes.{Tree, row_of, rows_of, tree_of}
use Rattle.tree_core.specs.Outline.{outline, outline_due}
use Rattle.tree_core.proofs.GroupsDue.{Rows, read_there, read_below, read_above, ends_more, content_some}
use Rattle.tree_core.proofs.Passes.{next_node}

module _ {A : Type 0} where
  unseen_node : (o : Option A) (id : ℕ) (look : Look) (a b : Forest A) → look.visible ≡ false → outline (node o id look a b) ≡ outline b
  unseen_node None id look a b h = kept look.visible _ _ h
  unseen_node (Some x) id look a b h = kept look.visible _ _ h

  layer_node : (o : Option A) (id : ℕ) (look : Look) (a b : Forest A) → look.visible ≡ true → is_some o ≡ true → outline (node o id look a b) ≡ Layer id look ∷ outline b
  layer_node None id look a b h k = absurd (cc)
  layer_node (Some x) id look a b h k = taken look.visible _ _ h

  group_node : (o : Option A) (id : ℕ) (look : Look) (a b : Forest A) → look.visible ≡ true → is_some o ≡ false → outline (node o id look a b) ≡ Open ∷ (outline a ++ Close look ∷ outline b)
  group_node None id look a b h k = taken look.visible _ _ h
  group_node (Some x) id look a b h k = absurd (cc)

  -- a row below those that stand right in the innermost group, or one that isn't seen, adds nothing
  skipped : (d : ℕ) (gs : List Node) (row : Row A) (rows : List (Row A)) → d + length gs ≤ row.depth → (d + length gs ≡ row.depth → row.look.visible ≡ false) → outline_due d gs (row ∷ rows) ≡ outline_due d gs rows
  skipped d [] row rows low h = go (eqb row.depth d) refl
    where
      go : (b : Bool) → eqb row.depth d ≡ b → outline (read d (row ∷ rows)) ≡ outline (read d rows)
      go true e = let there : row.depth ≡ d = grind (arith, nat_tests) in ap outline (read_there d row rows there) ∙ unseen_node row.content row.id row.look _ _ (h (omega arith))
      go false e = let apart : row.depth ≢ d = grind (arith, nat_tests) in ap outline (read_below d row rows (omega arith))
  skipped d (g ∷ gs) row rows low h = λ i. skipped (suc d) gs row rows (omega arith) (λ e. h (omega arith)) i ++ Close g.look ∷ outline (read_below d row rows (omega arith) i)

  -- a visible layer right in the innermost group comes next
  laid : (d : ℕ) (gs : List Node) (row : Row A) (rows : List (Row A)) → d + length gs ≡ row.depth → row.look.visible ≡ true → is_some row.content ≡ true → outline_due d gs (row ∷ rows) ≡ Layer row.id row.look ∷ outline_due d gs rows
  laid d [] row rows e h k = ap outline (read_there d row rows (omega arith)) ∙ layer_node row.content row.id row.look _ _ h k
  laid d (g ∷ gs) row rows e h k = λ i. laid (suc d) gs row rows (omega arith) h k i ++ Close g.look ∷ outline (read_below d row rows (omega arith) i)

  -- a visible group there begins, and stands round what comes next
  entered : (d : ℕ) (gs : List Node) (n : Node) (row : Row A) (rows : List (Row A)) → d + length gs ≡ row.depth → n.look ≡ row.look → row.look.visible ≡ true → is_some row.content ≡ false → outline_due d gs (row ∷ rows) ≡ Open ∷ outline_due d (gs ++ n ∷ []) rows
  entered d [] n row rows e same h k = ap outline (read_there d row rows (omega arith)) ∙ group_node row.content row.id row.look _ _ h k ∙ ap (λ look. Open ∷ (outline (read (suc d) rows) ++ Close look ∷ outline (read d rows))) (sym same)
  entered d (g ∷ gs) n row rows e same h k = λ i. entered (suc d) gs n row rows (omega arith) same h k i ++ Close g.look ∷ outline (read_below d row rows (omega arith) i)

  -- where nothing more comes in it, the innermost group ends next
  left : (d n : ℕ) (gs : List Node) (g : Node) (rows : List (Row A)) → n ≡ d + length gs → EndsAt (suc n) rows → outline_due d (gs ++ g ∷ []) rows ≡ Close g.look ∷ outline_due d gs rows
  left d n [] g rows e h = ap (λ f. outline f ++ Close g.look ∷ outline (read d rows)) (read_above (suc d) rows (ends_more (suc n) (suc d) rows (omega arith) h))
  left d n (p ∷ gs) g rows e h = ap (λ t. t ++ Close p.look ∷ outline (read d rows)) (left (suc d) n gs g rows (omega arith) h)

-- what comes next is there, and the rest is still to come
next_there : (old new due all : List Stage) (s : Stage) → new ≡ old ++ s ∷ [] → all ≡ s ∷ due → new ++ due ≡ old ++ all
next_there old new due all s e f = ap (λ t. t ++ due) e ∙ append_assoc old (s ∷ []) due ∙ ap (λ t. old ++ t) (sym f)

-- one group is left, and those round it stay
pub left_more : (around : List Node) (now new stages : List Stage) (depth m n : ℕ) (d : Node) → m ≡ n + 1 → n < length around → depth ≤ n → new ≡ now ++ Close (get_or around n d).look ∷ []
    → ((rows : Rows) → EndsAt (suc depth) rows → now ++ outline_due 0 (take m around) rows ≡ stages ++ outline_due 0 around rows)
    → (n ≤ length around) × ((rows : Rows) → EndsAt (suc depth) rows → new ++ outline_due 0 (take n around) rows ≡ stages ++ outline_due 0 around rows)
left_more around now new stages depth m n d is h low e so_far = (
  omega arith,
  λ rows ends. next_there now new (outline_due 0 (take n around) rows) (outline_due 0 (take m around) rows) (Close (get_or around n d).look) e
      (ap (λ gs. outline_due 0 gs rows) (ap (λ k. take k around) is ∙ take_more around n d h) ∙ left 0 (length (take n around)) (take n around) (get_or around n d) rows (omega arith) (ends_more (suc depth) (suc (length (take n around))) rows few ends))
      ∙ so_far rows ends,
)
  where
    few : suc depth ≤ suc (length (take n around))
    few = let k : length (take n around) ≡ n = length-take-le n around (omega arith) in omega arith

pub unseen_passed : (n : Node) (around : List Node) (stages : List Stage) (rows : Rows) → n.look.visible ≡ false → length around ≤ n.depth → stages ++ outline_due 0 around rows ≡ stages ++ outline_due 0 around (row_of n ∷ rows)
unseen_passed n around stages rows e h = ap (λ t. stages ++ t) (sym (skipped 0 around (row_of n) rows (omega arith) (λ _. e)))

pub deep_passed : (n : Node) (around : List Node) (stages : List Stage) (rows : Rows) → length around ≢ n.depth → length around ≤ n.depth → stages ++ outline_due 0 around rows ≡ stages ++ outline_due 0 around (row_of n ∷ rows)
deep_passed n around stages rows e h = ap (λ t. stages ++ t) (sym (skipped 0 around (row_of n) rows (omega arith) (λ f. absurd (e (omega arith)))))

pub layer_laid : (n : Node) (around : List Node) (old new : List Stage) (rows : Rows) → n.look.visible ≡ true → n.paints ≡ true → length around ≡ n.depth → new ≡ old ++ Layer n.id n.look ∷ [] → new ++ outline_due 0 around rows ≡ old ++ outline_due 0 around (row_of n ∷ rows)
layer_laid n around old new rows seen e h f = next_there old new _ _ (Layer n.id n.look) f (laid 0 around (row_of n) rows (omega arith) seen (content_some n.paints ∙ e))

pub group_entered : (n : Node) (around inner : List Node) (old new : List Stage) (rows : Rows) → n.look.visible ≡ true → n.paints ≡ false → length around ≡ n.depth → inner ≡ around ++ n ∷ [] → new ≡ old ++ Open ∷ [] → new ++ outline_due 0 inner rows ≡ old ++ outline_due 0 around (row_of n ∷ rows)
group_entered n around inner old new rows seen e h f g = next_there old new _ _ Open g (entered 0 around n (row_of n) rows (omega arith) refl seen (content_some n.paints ∙ e) ∙ ap (λ gs. Open ∷ outline_due 0 gs rows) (sym f))

-- one node more is passed
pub node_passed : (nodes : List Node) (i : ℕ) (d : Node) (around around' : List Node) (stages stages' all : List Stage) → i < length nodes → ((rows : Rows) → stages' ++ outline_due 0 around' rows ≡ stages ++ outline_due 0 around (row_of (get_or nodes i d) ∷ rows))
    → stages ++ outline_due 0 around (rows_of (drop i nodes)) ≡ all → stages' ++ outline_due 0 around' (rows_of (drop (i + 1) nodes)) ≡ all
node_passed nodes i d around around' stages stages' all h step so_far = step (rows_of (drop (i + 1) nodes)) ∙ ap (λ ns. stages ++ outline_due 0 around (rows_of ns)) (sym (next_node nodes i d h)) ∙ so_far

-- before the first node none is passed
pub none_passed : (nodes around : List Node) (stages : List Stage) → around ≡ [] → stages ≡ [] → stages ++ outline_due 0 around (rows_of (drop 0 nodes)) ≡ outline (tree_of nodes)
none_passed nodes around stages e f = λ i. f i ++ outline_due 0 (e i) (rows_of nodes)

-- after the last one all groups round it are left
pub all_passed : (around last : List Node) (stages new : List Stage) (t : Tree) (rest : List Node) → rest ≡ [] → stages ++ outline_due 0 around (rows_of rest) ≡ outline t → length last ≤ 0 → new ++ outline_due {A = Unit {0}} 0 last [] ≡ stages ++ outline_due {A = Unit {0}} 0 around [] → new ≡ outline t
all_passed around [] stages new t rest e so_far none_left f = sym (append-nil new) ∙ f ∙ ap (λ ns. stages ++ outline_due 0 around (rows_of ns)) (sym e) ∙ so_far
all_passed around (g ∷ gs) stages new t rest e so_far none_left f = absurd (omega arith)
