-- How many groups a walk composes, and how many tiles a patch meets.
use Rattle.std.proofs.Common.{◌≡◌, ℕ, suc, ◌+◌, ◌*◌, ◌≤◌, Bool, true, false, ◌&&◌, cond, [], ◌∷◌, ◌++◌, Some, Option, None, length, take, sym, arith, subst, eqb, length-append}
use Rattle.std.specs.Prelude.{ℤ, pos, negsuc, ◌+ℤ◌, ◌-ℤ◌, ◌*ℤ◌, ◌≤ℤ◌, ◌<ℤ◌, int_le}
use borrow.Author.Differences.{ints}
use Rattle.geom_core.proofs.Tests.{and_left, and_right}
use Rattle.geom_core.proofs.Axes.{InPiece}
use Rattle.geom_core.proofs.Counts.{length-count_from, length-keys_in_rows}
use Rattle.geom_core.specs.Areas.{Area, right, bottom, lies_in}
use Rattle.geom_core.specs.Grid.{cell, cell_of, floor_by, how_many, pieces, keys_of}
use Rattle.doc_model.specs.declared.canvas.Walk.{Walk}
use Rattle.doc_model.specs.declared.canvas.Walk.TheVariants.{Up, All}
use Rattle.doc_model.specs.declared.canvas.Patch.{Patch}
use Rattle.doc_model.specs.Forest.{Forest, none, paint, group, count, has, with_content}
use Rattle.doc_model.specs.Readers.{path, order}
use Rattle.doc_model.specs.Picture.{Doc}
use Rattle.doc_model.specs.Layers.{Layer}
use Rattle.doc_model.specs.Laws.{IsDocument, EachDoc}
use Rattle.doc_model.specs.Strokes.{entries}
use Rattle.doc_model.specs.Queues.{in_place}
use Rattle.doc_model.proofs.Limits.{meaning_keeps_limits}
use Rattle.doc_model.proofs.Weights.{weight_count, weight_with_content}
use Rattle.machine_model.specs.State.{State}
use Rattle.machine_model.specs.Settled.{story}
use Rattle.machine_model.specs.Groups.{path_of}
use Rattle.machine_model.specs.UnderWay.{IsOnWay}
use Rattle.machine_model.specs.Sound.{IsOrderly}

module _ {A : Type 0} where
  -- there are no more groups than nodes
  order_few : (f : Forest A) → length (order f) ≤ count f
  order_few none = omega arith
  order_few (paint id look x rest) = let h : length (order rest) ≤ count rest = order_few rest in omega arith
  order_few (group id look nodes rest) =
      let a : length (order nodes) ≤ count nodes = order_few nodes in
      let b : length (order rest) ≤ count rest = order_few rest in
      let c : length (order nodes ++ (id ∷ order rest)) ≡ length (order nodes) + suc (length (order rest)) = length-append (order nodes) (id ∷ order rest) in
      omega arith

  -- nor on the way up from one of them
  path_few : (q : ℕ) (f : Forest A) → length (path q f) ≤ count f
  path_few q none = omega arith
  path_few q (paint id look x rest) = go (eqb q id) (path_few q rest)
    where
      go : (b : Bool) → length (path q rest) ≤ count rest → length (cond b (id ∷ []) (path q rest)) ≤ 1 + count rest
      go true h = omega arith
      go false h = omega arith
  path_few q (group id look nodes rest) = go (eqb q id) (has q nodes) (path_few q nodes) (path_few q rest)
    where
      go : (b c : Bool) → length (path q nodes) ≤ count nodes → length (path q rest) ≤ count rest → length (cond b (id ∷ []) (cond c (path q nodes ++ id ∷ []) (path q rest))) ≤ 1 + count nodes + count rest
      go true c h k = omega arith
      go false true h k = let e : length (path q nodes ++ id ∷ []) ≡ length (path q nodes) + 1 = length-append (path q nodes) (id ∷ []) in omega arith
      go false false h k = omega arith

walk_few : (walk : Walk) (doc : Doc) → length (path_of walk doc) ≤ count doc + 1
walk_few (Up g) doc = go (eqb g 0)
  where
    go : (b : Bool) → length (cond b (0 ∷ []) (path g doc ++ 0 ∷ [])) ≤ count doc + 1
    go true = omega arith
    go false =
        let e : length (path g doc ++ 0 ∷ []) ≡ length (path g doc) + 1 = length-append (path g doc) (0 ∷ []) in
        let h : length (path g doc) ≤ count doc = path_few g doc in
        omega arith
walk_few All doc =
    let e : length (order doc ++ 0 ∷ []) ≡ length (order doc) + 1 = length-append (order doc) (0 ∷ []) in
    let h : length (order doc) ≤ count doc = order_few doc in
    omega arith

-- the document has 256 nodes at most
present_few : (s : State) → IsOrderly s → count s.present ≤ 256
present_few s sound = go s.way sound.on_way
  where
    each : EachDoc (IsDocument {A = Layer}) (story s)
    each = subst (EachDoc (IsDocument {A = Layer})) sound.told.means (meaning_keeps_limits s.canvas (take (length s.outcomes) (entries s.fed)))

    go : (w : Option ℕ) → IsOnWay s w → count s.present ≤ 256
    go None rest = subst (λ (d : Doc). count d ≤ 256) (sym rest.same) each.document.few
    go (Some n) way = subst (λ (d : Doc). count d ≤ 256) (sym way.is) (omega (arith, each.document.few, weight_count s.base, weight_count (with_content way.stroke.layer way.layer s.base), weight_with_content (λ _. 1) way.stroke.layer way.layer s.base))

-- so a walk composes 257 groups at most
pub groups_few : (s : State) → IsOrderly s → (walk : Walk) → length (path_of walk s.present) ≤ 257
groups_few s sound walk = let a : length (path_of walk s.present) ≤ count s.present + 1 = walk_few walk s.present in let b : count s.present ≤ 256 = present_few s sound in omega arith

-- the piece of 64 that a number lies in
in_tile : (x : ℤ) → InPiece 64 (floor_by 64 x) x
in_tile (pos n) = record { from = omega (arith, ints); below = omega (arith, ints) }
in_tile (negsuc n) = record { from = omega (arith, ints); below = omega (arith, ints) }

-- along one axis n numbers of a piece of 256 meet 4 pieces of 64 at most
four : (a c f l : ℤ) (n : ℕ) → (pos 256 *ℤ c) ≤ℤ a → (a +ℤ pos n) ≤ℤ ((pos 256 *ℤ c) +ℤ pos 256)
    → (pos 64 *ℤ f) ≤ℤ a → a <ℤ ((pos 64 *ℤ f) +ℤ pos 64) → (pos 64 *ℤ l) ≤ℤ ((a +ℤ pos n) -ℤ pos 1) → ((a +ℤ pos n) -ℤ pos 1) <ℤ ((pos 64 *ℤ l) +ℤ pos 64) → how_many f l ≤ 4
four a c f l n p q r s t u = omega (arith, ints)

le_of : (x y : ℤ) → int_le x y ≡ true → x ≤ℤ y
le_of x y h = grind (arith, ints)

pieces_few : (a c : ℤ) (n : ℕ) → int_le (pos 256 *ℤ c) a ≡ true → int_le (a +ℤ pos n) ((pos 256 *ℤ c) +ℤ pos 256) ≡ true → length (pieces 64 a ((a +ℤ pos n) -ℤ pos 1)) ≤ 4
pieces_few a c n p q =
    let i : InPiece 64 (floor_by 64 a) a = in_tile a in
    let j : InPiece 64 (floor_by 64 ((a +ℤ pos n) -ℤ pos 1)) ((a +ℤ pos n) -ℤ pos 1) = in_tile ((a +ℤ pos n) -ℤ pos 1) in
    let m : how_many (floor_by 64 a) (floor_by 64 ((a +ℤ pos n) -ℤ pos 1)) ≤ 4 = four a c (floor_by 64 a) (floor_by 64 ((a +ℤ pos n) -ℤ pos 1)) n (le_of _ _ p) (le_of _ _ q) i.from i.below j.from j.below in
    subst (λ k. k ≤ 4) (sym (length-count_from (floor_by 64 a) (how_many (floor_by 64 a) (floor_by 64 ((a +ℤ pos n) -ℤ pos 1))))) m

product : (a b : ℕ) → a ≤ 4 → b ≤ 4 → a * b ≤ 16
product a b h k = grind arith

-- a patch in one cell meets 16 tiles at most
pub tiles_few : (canvas : Area) (p : Patch) → in_place canvas p ≡ true → length (keys_of p.rect) ≤ 16
tiles_few canvas p h =
    let l : lies_in p.rect (cell (cell_of p.rect)) ≡ true = and_left _ _ h in
    let x : (int_le (cell (cell_of p.rect)).x p.rect.x && int_le (right p.rect) (right (cell (cell_of p.rect)))) ≡ true = and_left _ _ l in
    let y : (int_le (cell (cell_of p.rect)).y p.rect.y && int_le (bottom p.rect) (bottom (cell (cell_of p.rect)))) ≡ true = and_right _ _ l in
    let cs : length (pieces 64 p.rect.x (right p.rect -ℤ pos 1)) ≤ 4 = pieces_few p.rect.x (cell_of p.rect).col p.rect.w (and_left _ _ x) (and_right _ _ x) in
    let rs : length (pieces 64 p.rect.y (bottom p.rect -ℤ pos 1)) ≤ 4 = pieces_few p.rect.y (cell_of p.rect).row p.rect.h (and_left _ _ y) (and_right _ _ y) in
    subst (λ n. n ≤ 16) (sym (length-keys_in_rows (pieces 64 p.rect.x (right p.rect -ℤ pos 1)) (pieces 64 p.rect.y (bottom p.rect -ℤ pos 1)))) (product _ _ cs rs)
