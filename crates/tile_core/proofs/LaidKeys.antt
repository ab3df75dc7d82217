-- A tile laid over the pixels of a rectangle.
use Rattle.std.proofs.Common.{◌≡◌, ℕ, ◌+◌, ◌-◌, ◌*◌, ◌%◌, ◌≤◌, ◌<◌, Bool, true, false, ◌&&◌, cond, List, length, get_or, refl, sym, ap, ◌∙◌, arith, ltb, leb, inl, inr, subst}
use Rattle.std.specs.Prelude.{ℤ, pos, negsuc, ◌+ℤ◌, ◌-ℤ◌, ◌*ℤ◌, int_le, int_lt, nat_abs, ◌≤ℤ◌, slice_get}
use borrow.Author.Differences.{ints}
use Rattle.std.proofs.lemmas.Bool.Decides.{nat_tests}
use Rattle.pixel_core.specs.Rgba.{Rgba, clear}
use Rattle.geom_core.specs.Areas.{Area, holds, Point}
use Rattle.geom_core.specs.Rects.{place_in, IsShared}
use Rattle.geom_core.specs.Grid.{Key, key_of, same_key, tile, keys_of}
use Rattle.geom_core.specs.Keys.{IsWorldKey}
use Rattle.geom_core.specs.Place.{across, IsOffset}
use Rattle.geom_core.proofs.Tests.{and_left, and_right, true_or_false, taken, kept}
use Rattle.geom_core.proofs.Spots.{le_shifted, lt_end_shifted, nat_abs-back, from_edge}
use Rattle.geom_core.proofs.Tiles.{own_tile, key_of_holder, key_same, key_is}
use Rattle.tile_core.specs.Pixels.{Pixels, pixel_of, pixel_at, pixel_or, HasPixels}
use Rattle.tile_core.specs.Parts.{in_part, LaysTile}
use Rattle.std.proofs.Common.{take, ◌++◌, ◌∷◌, [], ◌||◌, Some, None, replicate}
use Rattle.std.specs.FinMap as map
use Rattle.std.specs.List.{list_any}
use Rattle.std.proofs.lemmas.List.{take_more}
use Rattle.std.proofs.lemmas.List.Folds.{list_any-append}
use Rattle.std.proofs.lemmas.Option.{get_or_from_slice_get, slice_get_within}
use Rattle.std.proofs.Math.Seq.{take-length}
use Rattle.geom_core.proofs.Keys.{key_of_held}
use Rattle.tile_core.proofs.Taken.{plain_pixels}
use Rattle.tile_core.specs.Shots.{Sight, sight_at, LaysKey, ReadsKeys}

-- along one axis: a rectangle begins at r of the world, its part in a tile at a, and x is one of the rectangle's
pub record Along (rx ax x : ℤ) (r a m : ℕ) : Type 0 where
  pub inside : (leb (a - r) (nat_abs (x -ℤ rx)) && ltb (nat_abs (x -ℤ rx)) (a - r + m)) ≡ (int_le ax x && int_lt x (ax +ℤ pos m))
  pub there : (int_le ax x && int_lt x (ax +ℤ pos m)) ≡ true → a % 64 + (nat_abs (x -ℤ rx) - (a - r)) ≡ nat_abs (x +ℤ pos 16384) % 64

apart_shifted : (a b k : ℕ) → a ≤ b → nat_abs ((pos b -ℤ pos k) -ℤ (pos a -ℤ pos k)) ≡ b - a
apart_shifted a b k h = omega (arith, ints)

moved_tests : (r a m x : ℕ) → r ≤ a → r ≤ x → (leb (a - r) (x - r) && ltb (x - r) (a - r + m)) ≡ (leb a x && ltb x (a + m))
moved_tests r a m x h k = grind (arith, nat_tests)

same_rest : (n r a m x : ℕ) → r ≤ a → 64 * n ≤ a → a + m ≤ 64 * n + 64 → (leb a x && ltb x (a + m)) ≡ true → a % 64 + ((x - r) - (a - r)) ≡ x % 64
same_rest n r a m x h p q t =
    let b : (a ≤ x) × (x < a + m) = ends a x m t in
    omega arith
  where
    ends : (a x m : ℕ) → (leb a x && ltb x (a + m)) ≡ true → (a ≤ x) × (x < a + m)
    ends a x m t = (grind (arith, nat_tests), grind (arith, nat_tests))

along_at : (n r a m x : ℕ) → r ≤ a → 64 * n ≤ a → a + m ≤ 64 * n + 64 → r ≤ x → Along (pos r -ℤ pos 16384) (pos a -ℤ pos 16384) (pos x -ℤ pos 16384) r a m
along_at n r a m x h p q k =
    let tests : (int_le (pos a -ℤ pos 16384) (pos x -ℤ pos 16384) && int_lt (pos x -ℤ pos 16384) ((pos a -ℤ pos 16384) +ℤ pos m)) ≡ (leb a x && ltb x (a + m)) = simp (le_shifted, lt_end_shifted) in
    record {
      inside = rw (apart_shifted r x 16384 k) (moved_tests r a m x h k ∙ sym tests);
      there = λ t. rw (apart_shifted r x 16384 k, nat_abs-back x 16384) (same_rest n r a m x h p q (sym tests ∙ t));
    }

-- the tile's first column or row, and a part of it, as numbers from the world's corner on
pub record InPiece (n a m : ℕ) : Type 0 where
  pub from : 64 * n ≤ a
  pub to : a + m ≤ 64 * n + 64

pub in_piece : (k x : ℤ) (a m : ℕ) → negsuc 255 ≤ℤ k → (pos a -ℤ pos 16384) ≡ x → (pos 64 *ℤ k) ≤ℤ x → (x +ℤ pos m) ≤ℤ ((pos 64 *ℤ k) +ℤ pos 64) → InPiece (nat_abs (k +ℤ pos 256)) a m
in_piece k x a m w e p q = record { from = omega (arith, ints); to = omega (arith, ints) }

pub rest_fits : (n a m : ℕ) → InPiece n a m → 1 ≤ m → a % 64 + m ≤ 64
rest_fits n a m i s = omega (arith, i.from, i.to)

pub record InSpan (r a m n : ℕ) : Type 0 where
  pub from : r ≤ a
  pub to : a + m ≤ r + n

pub in_span : (x y : ℤ) (r a m n : ℕ) → (pos r -ℤ pos 16384) ≡ x → (pos a -ℤ pos 16384) ≡ y → x ≤ℤ y → (y +ℤ pos m) ≤ℤ (x +ℤ pos n) → InSpan r a m n
in_span x y r a m n e f p q = record { from = omega (arith, ints); to = omega (arith, ints) }

pub rows_fit : (r a m n width : ℕ) → InSpan r a m n → (a - r + m) * width ≤ n * width
rows_fit r a m n width i = more (a - r + m) n width (omega (arith, i.from, i.to))
  where
    more : (x n width : ℕ) → x ≤ n → x * width ≤ n * width
    more x n width h = grind arith

not_below : (x rx : ℤ) (r : ℕ) → (pos r -ℤ pos 16384) ≡ rx → rx ≤ℤ x → negsuc 16383 ≤ℤ x
not_below x rx r e h = omega (arith, ints)

spot_after : (x rx : ℤ) (r : ℕ) → (pos r -ℤ pos 16384) ≡ rx → rx ≤ℤ x → r ≤ nat_abs (x +ℤ pos 16384)
spot_after x rx r e h = omega (arith, ints)

along : (rx ax x : ℤ) (n r a m w : ℕ) → (pos r -ℤ pos 16384) ≡ rx → (pos a -ℤ pos 16384) ≡ ax → rx ≤ℤ x → InPiece n a m → InSpan r a m w → Along rx ax x r a m
along rx ax x n r a m w er ea h i s =
    let e : (pos (nat_abs (x +ℤ pos 16384)) -ℤ pos 16384) ≡ x = from_edge x (not_below x rx r er h) in
    subst (λ v. Along rx ax v r a m) e (subst (λ v. Along v ax (pos (nat_abs (x +ℤ pos 16384)) -ℤ pos 16384) r a m) er (subst (λ v. Along (pos r -ℤ pos 16384) v (pos (nat_abs (x +ℤ pos 16384)) -ℤ pos 16384) r a m) ea
    (along_at n r a m (nat_abs (x +ℤ pos 16384)) s.from i.from i.to (spot_after x rx r er h))))

starts : (a x : ℤ) (n : ℕ) → (int_le a x && int_lt x (a +ℤ pos n)) ≡ true → a ≤ℤ x
starts a x n h = grind (arith, ints)

small_step : (a x : ℤ) (n : ℕ) → (int_le a x && int_lt x (a +ℤ pos n)) ≡ true → nat_abs (x -ℤ a) < n
small_step a x n h = grind (arith, ints)

-- a tile holds the points that have its key
tile_holds : (k : Key) (p : Point) → holds (tile k) p ≡ same_key (key_of p) k
tile_holds k p = elim (true_or_false (holds (tile k) p)) [
  | inl h ↦ h ∙ sym (key_is (key_of p) k (key_of_holder k p h))
  | inr f ↦ elim (true_or_false (same_key (key_of p) k)) [
    | inl t ↦ ap (λ (m : Key). holds (tile m) p) (sym (key_same (key_of p) k t)) ∙ own_tile p ∙ sym t
    | inr e ↦ f ∙ sym e
  ]
]

chosen : (t u : Bool) (x y z : Rgba) → t ≡ u → (u ≡ true → x ≡ y) → cond t x z ≡ cond u y z
chosen t true x y z e s = rw e (s refl)
chosen t false x y z e s = rw e refl

and_of : (a b : Bool) → a ≡ true → (a && b) ≡ b
and_of a b e = rw e refl

pub lays_key : (old new : List Rgba) (rect part : Area) (k : Key) (t : Pixels) (rl rt al at : ℕ) → IsOffset rl rect.x → IsOffset rt rect.y → IsOffset al part.x → IsOffset at part.y → IsWorldKey k → IsShared rect (tile k) part
    → LaysTile old new rect.w (al - rl) (at - rt) part.w part.h t (al % 64) (at % 64) → LaysKey old new rect k t
lays_key old new rect part k t rl rt al at erl ert eal eat world shared laid p held =
    let hx : (int_le rect.x p.x && int_lt p.x (rect.x +ℤ pos rect.w)) ≡ true = and_left _ _ held in
    let hy : (int_le rect.y p.y && int_lt p.y (rect.y +ℤ pos rect.h)) ≡ true = and_right _ _ held in
    let x : Along rect.x part.x p.x rl al part.w = along rect.x part.x p.x (nat_abs (k.col +ℤ pos 256)) rl al part.w rect.w erl eal (starts rect.x p.x rect.w hx)
    (in_piece k.col part.x al part.w world.left eal shared.in_b.left shared.in_b.right) (in_span rect.x part.x rl al part.w rect.w erl eal shared.in_a.left shared.in_a.right) in
    let y : Along rect.y part.y p.y rt at part.h = along rect.y part.y p.y (nat_abs (k.row +ℤ pos 256)) rt at part.h rect.h ert eat (starts rect.y p.y rect.h hy)
    (in_piece k.row part.y at part.h world.top eat shared.in_b.top shared.in_b.bottom) (in_span rect.y part.y rt at part.h rect.h ert eat shared.in_a.top shared.in_a.bottom) in
    let col : ℕ = nat_abs (p.x -ℤ rect.x) in
    let row : ℕ = nat_abs (p.y -ℤ rect.y) in
    let part_is : in_part (al - rl) (at - rt) part.w part.h col row ≡ holds part p = rw (x.inside, y.inside) refl in
    laid col row (small_step rect.x p.x rect.w hx)
    ∙ chosen (in_part (al - rl) (at - rt) part.w part.h col row) (same_key (key_of p) k) (pixel_of t (al % 64 + (col - (al - rl))) (at % 64 + (row - (at - rt)))) (pixel_at t p) (get_or old (place_in rect p) clear)
    (part_is ∙ shared.held p ∙ and_of (holds rect p) (holds (tile k) p) held ∙ tile_holds k p)
    (λ e. let inside : holds part p ≡ true = shared.held p ∙ and_of (holds rect p) (holds (tile k) p) held ∙ tile_holds k p ∙ e in
    ap (λ i. pixel_of t i (at % 64 + (row - (at - rt)))) (x.there (and_left _ _ inside)) ∙ ap (λ i. pixel_of t (across p % 64) i) (y.there (and_right _ _ inside)))

-- the same where the parts have names of their own
pub lays_key_as : (old new : List Rgba) (rect part : Area) (k : Key) (t t' : Pixels) (rl rt al at width w h : ℕ) → IsOffset rl rect.x → IsOffset rt rect.y → IsOffset al part.x → IsOffset at part.y → IsWorldKey k → IsShared rect (tile k) part
    → width ≡ rect.w → w ≡ part.w → h ≡ part.h → t' ≡ t → LaysTile old new width (al - rl) (at - rt) w h t' (al % 64) (at % 64) → LaysKey old new rect k t
lays_key_as old new rect part k t t' rl rt al at width w h erl ert eal eat world shared ewidth ew eh et laid =
    let laid' : LaysTile old new rect.w (al - rl) (at - rt) part.w part.h t (al % 64) (at % 64) = rw (← ewidth, ← ew, ← eh, ← et) laid in
    lays_key old new rect part k t rl rt al at erl ert eal eat world shared laid'

pub tile_fits : (k x : ℤ) (a m m' : ℕ) → negsuc 255 ≤ℤ k → IsOffset a x → (pos 64 *ℤ k) ≤ℤ x → (x +ℤ pos m) ≤ℤ ((pos 64 *ℤ k) +ℤ pos 64) → m' ≡ m → 1 ≤ m' → a % 64 + m' ≤ 64
tile_fits k x a m m' w e p q em s = rw em (rest_fits (nat_abs (k +ℤ pos 256)) a m (in_piece k x a m w e p q) (rw (← em) s))

-- nothing is laid where the rectangle has no point of the tile
pub lays_nothing : (old : List Rgba) (rect keys : Area) (k : Key) (t : Pixels) → keys ≡ tile k → ((p : Point) → holds rect p ≡ true → holds keys p ≡ false) → LaysKey old old rect k t
lays_nothing old rect keys k t e apart p held =
    let other : same_key (key_of p) k ≡ false = sym (tile_holds k p) ∙ ap (λ (a : Area). holds a p) (sym e) ∙ apart p held in
    sym (kept (same_key (key_of p) k) (pixel_at t p) (get_or old (place_in rect p) clear) other)

-- no tile under the key: what stands there is the default pixel already
pub read_skip : (s : Sight) (a : Area) (old : List Rgba) (ks : List Key) (k : Key) → ReadsKeys s a old ks → map.get s.tiles k ≡ None → ReadsKeys s a old (ks ++ k ∷ [])
read_skip s a old ks k r e p held = r p held ∙ ap (λ b. cond b (sight_at s p) s.default_pixel) refl ∙ go (list_any (same_key (key_of p)) ks) (same_key (key_of p) k) refl
    ∙ ap (λ b. cond b (sight_at s p) s.default_pixel) (sym (list_any-append (same_key (key_of p)) ks (k ∷ [])))
  where
    go : (b t : Bool) → same_key (key_of p) k ≡ t → cond b (sight_at s p) s.default_pixel ≡ cond (b || (t || false)) (sight_at s p) s.default_pixel
    go true t h = refl
    go false true h = sym (ap (λ (m : Key). pixel_or (map.get s.tiles m) s.default_pixel p) (key_same (key_of p) k h) ∙ ap (λ o. pixel_or o s.default_pixel p) e)
    go false false h = refl

-- the pixels of the points of one more key are read
pub read_next : (s : Sight) (a : Area) (old new : List Rgba) (ks : List Key) (k : Key) (t : Pixels) → ReadsKeys s a old ks → map.get s.tiles k ≡ Some t → LaysKey old new a k t → ReadsKeys s a new (ks ++ k ∷ [])
read_next s a old new ks k t r e lays p held = lays p held ∙ ap (λ v. cond (same_key (key_of p) k) (pixel_at t p) v) (r p held) ∙ go (list_any (same_key (key_of p)) ks) (same_key (key_of p) k) refl
    ∙ ap (λ b. cond b (sight_at s p) s.default_pixel) (sym (list_any-append (same_key (key_of p)) ks (k ∷ [])))
  where
    here : same_key (key_of p) k ≡ true → pixel_at t p ≡ sight_at s p
    here h = sym (ap (λ (m : Key). pixel_or (map.get s.tiles m) s.default_pixel p) (key_same (key_of p) k h) ∙ ap (λ o. pixel_or o s.default_pixel p) e)

    go : (b u : Bool) → same_key (key_of p) k ≡ u → cond u (pixel_at t p) (cond b (sight_at s p) s.default_pixel) ≡ cond (b || (u || false)) (sight_at s p) s.default_pixel
    go true true h = here h
    go false true h = here h
    go true false h = refl
    go false false h = refl

pub read_key : (s : Sight) (a : Area) (new : List Rgba) (keys : List Key) (i : ℕ) (k : Key) → slice_get keys i ≡ Some k → ReadsKeys s a new (take i keys ++ k ∷ []) → ReadsKeys s a new (take (i + 1) keys)
read_key s a new keys i k e r = subst (λ ks. ReadsKeys s a new ks) (sym (take_more keys i k (slice_get_within keys i k e) ∙ ap (λ (x : Key). take i keys ++ x ∷ []) (get_or_from_slice_get keys i k k e))) r

pub read_none : (s : Sight) (a : Area) (c : Rgba) (ps : List Rgba) → ps ≡ replicate (a.h * a.w) c → c ≡ s.default_pixel → ReadsKeys s a ps []
read_none s a c ps e d p held = ap (λ v. get_or v (place_in a p) clear) e ∙ plain_pixels a c p held ∙ d

pub read_all : (s : Sight) (a : Area) (ps : List Rgba) (i : ℕ) → length (keys_of a) ≤ i → i ≤ length (keys_of a) → ReadsKeys s a ps (take i (keys_of a)) → HasPixels a (sight_at s) ps
read_all s a ps i low high r p held =
    let n : i ≡ length (keys_of a) = omega arith in
    r p held ∙ ap (λ ks. cond (list_any (same_key (key_of p)) ks) (sight_at s p) s.default_pixel) (ap (λ m. take m (keys_of a)) n ∙ take-length (keys_of a)) ∙ taken (list_any (same_key (key_of p)) (keys_of a)) (sight_at s p) s.default_pixel (key_of_held a p held)
