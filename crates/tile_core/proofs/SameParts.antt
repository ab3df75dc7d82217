-- Parts of tiles that have given pixels, row by row.
use Rattle.std.proofs.Common.{◌≡◌, ℕ, ◌+◌, ◌*◌, ◌/◌, ◌%◌, ◌<◌, ◌≤◌, length, ◌&&◌, Bool, true, false, IsTrue, ap, sym, subst, ◌∙◌, arith, ◌⊎◌, inl, inr}
use Rattle.std.specs.Prelude.{ℤ, pos, negsuc, ◌+ℤ◌, ◌-ℤ◌, ◌*ℤ◌, ◌≤ℤ◌, int_le, int_lt, nat_abs, slice_index_or}
use borrow.Author.Differences.{ints}
use Rattle.std.proofs.lemmas.List.{ext_get_or}
use Rattle.pixel_core.specs.Rgba.{Rgba, clear}
use Rattle.geom_core.specs.Areas.{Area, holds, Point, point}
use Rattle.geom_core.specs.Rects.{IsWithin}
use Rattle.geom_core.specs.Grid.{Key, tile}
use Rattle.geom_core.specs.Keys.{IsWorldKey}
use Rattle.geom_core.specs.Place.{IsOffset, across, down}
use Rattle.geom_core.proofs.Tests.{and_left, and_right, both_true}
use Rattle.tile_core.specs.declared.rows.Part.{Part}
use Rattle.tile_core.specs.Pixels.{Pixels, pixel_of, pixel_at}
use Rattle.tile_core.specs.Parts.{IsPartOf}
use Rattle.tile_core.specs.Same.{PartIs, RowIs}
use Rattle.tile_core.proofs.LaidKeys.{InPiece, in_piece}

-- the rows above have those pixels
pub record IsSoFar (t : Pixels) (f : ℕ → Rgba) (left top w n from : ℕ) : Type 0 where
  pub at : from ≡ 64 * (top + n) + left
  pub is : PartIs t f left top w n

pub none_so_far : (t : Pixels) (f : ℕ → Rgba) (left top w n from : ℕ) → n ≡ 0 → from ≡ 64 * top + left → IsSoFar t f left top w n from
none_so_far t f left top w n from z e = record { at = omega (arith, z, e); is = λ col row p q. absurd (omega (arith, z, q)) }

last_row : (row n : ℕ) → row < n + 1 → (row < n) ⊎ (row ≡ n)
last_row row n h = grind arith

pub one_more : (t : Pixels) (f : ℕ → Rgba) (left top w n from : ℕ) → IsSoFar t f left top w n from → RowIs t f from w → IsSoFar t f left top w (n + 1) (from + 64)
one_more t f left top w n from so row_is = record { at = let e : from ≡ 64 * (top + n) + left = so.at in omega (arith, e); is = λ col row p q. go col row p (last_row row n q) }
  where
    go : (col row : ℕ) → col < w → (row < n) ⊎ (row ≡ n) → pixel_of t (left + col) (top + row) ≡ f (64 * (top + row) + (left + col))
    go col row p (inl q) = so.is col row p q
    go col row p (inr e) =
        let place : 64 * (top + row) + (left + col) ≡ from + col = omega (arith, e, so.at) in
        ap (λ i. slice_index_or t i clear) place ∙ row_is col p ∙ ap f (sym place)

-- so does each row of a part that has them
pub row_of : (t : Pixels) (f : ℕ → Rgba) (left top w h n from : ℕ) → IsSoFar t f left top w n from → n < h → PartIs t f left top w h → RowIs t f from w
row_of t f left top w h n from so low all col p =
    let place : 64 * (top + n) + (left + col) ≡ from + col = omega (arith, so.at) in
    ap (λ i. slice_index_or t i clear) (sym place) ∙ all col n p low ∙ ap f place

-- one axis: how far a number of the part lies from its tile's edge
offset : (a x : ℤ) (w left : ℕ) → IsOffset left a → (int_le a x && int_lt x (a +ℤ pos w)) ≡ true → nat_abs (x +ℤ pos 16384) ≡ left + nat_abs (x -ℤ a)
offset a x w left e h = grind (arith, ints)

small : (a x : ℤ) (w : ℕ) → (int_le a x && int_lt x (a +ℤ pos w)) ≡ true → nat_abs (x -ℤ a) < w
small a x w h = grind (arith, ints)

rest : (n left d w : ℕ) → 64 * n ≤ left → left + w ≤ 64 * n + 64 → d < w → (left + d) % 64 ≡ left % 64 + d
rest n left d w low high h = omega arith

along : (k a x : ℤ) (w left part : ℕ) → negsuc 255 ≤ℤ k → IsOffset left a → (pos 64 *ℤ k) ≤ℤ a → (a +ℤ pos w) ≤ℤ ((pos 64 *ℤ k) +ℤ pos 64) → part ≡ left % 64
    → (int_le a x && int_lt x (a +ℤ pos w)) ≡ true → nat_abs (x +ℤ pos 16384) % 64 ≡ part + nat_abs (x -ℤ a)
along k a x w left part world e low high at h =
    let piece : InPiece (nat_abs (k +ℤ pos 256)) left w = in_piece k a left w world e low high in
    ap (λ n. n % 64) (offset a x w left e h) ∙ rest (nat_abs (k +ℤ pos 256)) left (nat_abs (x -ℤ a)) w piece.from piece.to (small a x w h) ∙ ap (λ n. n + nat_abs (x -ℤ a)) (sym at)

step : (a : ℤ) (n w : ℕ) → n < w → (int_le a (a +ℤ pos n) && int_lt (a +ℤ pos n) (a +ℤ pos w)) ≡ true
step a n w h = grind (arith, ints)

step_back : (a : ℤ) (n : ℕ) → nat_abs ((a +ℤ pos n) -ℤ a) ≡ n
step_back a n = grind (arith, ints)

-- the place of a point in its tile
abbrev pub spot_of : Point → ℕ
spot_of p = 64 * (down p % 64) + across p % 64

module _ (t : Pixels) (f : ℕ → Rgba) (k : Key) (a : Area) (part : Part) (world : IsWorldKey k) (within : IsWithin a (tile k)) (is : IsPartOf a part) where
  across_is : (p : Point) → holds a p ≡ true → across p % 64 ≡ part.left + nat_abs (p.x -ℤ a.x)
  across_is p h = along k.col a.x p.x a.w (nat_abs (a.x +ℤ pos 16384)) part.left world.left is.x within.left within.right is.left (and_left _ _ h)

  down_is : (p : Point) → holds a p ≡ true → down p % 64 ≡ part.top + nat_abs (p.y -ℤ a.y)
  down_is p h = along k.row a.y p.y a.h (nat_abs (a.y +ℤ pos 16384)) part.top world.top is.y within.top within.bottom is.top (and_right _ _ h)

  -- the part has the pixels of f exactly where each point of the rectangle has
  pub points_are : PartIs t f part.left part.top part.w part.h → (p : Point) → holds a p ≡ true → pixel_at t p ≡ f (spot_of p)
  points_are all p h =
      (λ i. pixel_of t (across_is p h i) (down_is p h i))
      ∙ all (nat_abs (p.x -ℤ a.x)) (nat_abs (p.y -ℤ a.y)) (subst (λ n. nat_abs (p.x -ℤ a.x) < n) (sym is.w) (small a.x p.x a.w (and_left _ _ h))) (subst (λ n. nat_abs (p.y -ℤ a.y) < n) (sym is.h) (small a.y p.y a.h (and_right _ _ h)))
      ∙ (λ i. f (64 * sym (down_is p h) i + sym (across_is p h) i))

  pub part_is : ((p : Point) → holds a p ≡ true → pixel_at t p ≡ f (spot_of p)) → PartIs t f part.left part.top part.w part.h
  part_is all col row c r =
      let p : Point = point (a.x +ℤ pos col) (a.y +ℤ pos row) in
      let h : holds a p ≡ true = both_true _ _ (step a.x col a.w (subst (λ n. col < n) is.w c)) (step a.y row a.h (subst (λ n. row < n) is.h r)) in
      let x : across p % 64 ≡ part.left + col = across_is p h ∙ ap (λ n. part.left + n) (step_back a.x col) in
      let y : down p % 64 ≡ part.top + row = down_is p h ∙ ap (λ n. part.top + n) (step_back a.y row) in
      (λ i. pixel_of t (sym x i) (sym y i)) ∙ all p h ∙ (λ i. f (64 * y i + x i))

pub not_true : (b : Bool) {P : Type 0} → b ≡ false → IsTrue b → P
not_true true e h = absurd (no e)
  where
    no : true ≡ false → ⊥
    no e = cc
not_true false e h = absurd (no h)
  where
    no : IsTrue false → ⊥
    no h = cc

pub is_true : (b : Bool) → b ≡ true → IsTrue b
is_true b e = e

-- tiles with the same pixels in all columns and rows
pub whole_same : (t o : Pixels) → length t ≡ 4096 → length o ≡ 4096 → PartIs t (λ k. slice_index_or o k clear) 0 0 64 64 → t ≡ o
whole_same t o m n is = ext_get_or clear t o (m ∙ sym n) (λ i h.
    let place : 64 * (0 + i / 64) + (0 + i % 64) ≡ i = omega arith in
    sym (ap (λ k. slice_index_or t k clear) place) ∙ is (i % 64) (i / 64) (omega arith) (omega (arith, m)) ∙ ap (λ k. slice_index_or o k clear) place)

pub same_whole : (t o : Pixels) → t ≡ o → PartIs t (λ k. slice_index_or o k clear) 0 0 64 64
same_whole t o e col row p q = ap (λ (v : Pixels). slice_index_or v (64 * (0 + row) + (0 + col)) clear) e
