-- Rectangles inside one tile, and blocks with all points of a tile.
use Rattle.std.proofs.Common.{◌≡◌, ℕ, ◌+◌, ◌*◌, ◌%◌, ◌≤◌, true, ◌&&◌, List, [], ◌∷◌, length, Some, sym, ap, ◌∙◌, arith, get_or}
use Rattle.std.specs.Prelude.{ℤ, pos, ◌+ℤ◌, ◌-ℤ◌, ◌*ℤ◌, ◌≤ℤ◌, int_le, int_lt, nat_abs, slice_get}
use Rattle.std.specs.List.{list_any}
use borrow.Author.Differences.{ints}
use Rattle.pixel_core.specs.Rgba.{clear}
use Rattle.geom_core.specs.Areas.{Area, area, holds, right, bottom, Point, point}
use Rattle.geom_core.specs.Rects.{IsWithin, place_in}
use Rattle.geom_core.specs.Grid.{Key, key_of, same_key, keys_of, tile}
use Rattle.geom_core.specs.Keys.{IsWorldKey}
use Rattle.geom_core.specs.Place.{across, down}
use Rattle.geom_core.proofs.Keys.{key_of_held}
use Rattle.geom_core.proofs.Spots.{TileSpot, tile_spot}
use Rattle.geom_core.proofs.Tests.{and_left, and_right, both_true}
use Rattle.geom_core.proofs.Tiles.{own_tile, key_same}
use Rattle.tile_core.specs.Blocks.{Piece, IsPiece, piece_at}
use Rattle.tile_core.specs.Pixels.{pixel_at}
use Rattle.tile_core.proofs.LaidBlocks.{rest_of}
use Rattle.tile_core.proofs.SameSights.{corner_held, or_none}

-- ---- rectangles that meet one tile

only_item : (ks : List Key) (k : Key) → length ks ≡ 1 → slice_get ks 0 ≡ Some k → ks ≡ k ∷ []
only_item [] k n e = absurd (omega (arith, n))
only_item (x ∷ []) k n e = ap (λ m. m ∷ []) (same x k e)
  where
    same : (x k : Key) → Some x ≡ Some k → x ≡ k
    same x k e = cc
only_item (x ∷ y ∷ rest) k n e = absurd (omega (arith, n))

-- their points lie in that tile
held_by_one : (a : Area) (k : Key) → keys_of a ≡ k ∷ [] → (p : Point) → holds a p ≡ true → holds (tile k) p ≡ true
held_by_one a k only p h =
    let same : key_of p ≡ k = key_same (key_of p) k (or_none _ (ap (list_any (same_key (key_of p))) (sym only) ∙ key_of_held a p h)) in
    ap (λ m. holds (tile m) p) (sym same) ∙ own_tile p

ends : (a : ℤ) (n : ℕ) → 1 ≤ n → (int_le a ((a +ℤ pos n) -ℤ pos 1) && int_lt ((a +ℤ pos n) -ℤ pos 1) (a +ℤ pos n)) ≡ true
ends a n h = grind (arith, ints)

starts_in : (t x : ℤ) (m : ℕ) → (int_le t x && int_lt x (t +ℤ pos m)) ≡ true → t ≤ℤ x
starts_in t x m h = grind (arith, ints)

ends_in : (t e : ℤ) (m : ℕ) → (int_le t (e -ℤ pos 1) && int_lt (e -ℤ pos 1) (t +ℤ pos m)) ≡ true → e ≤ℤ (t +ℤ pos m)
ends_in t e m h = grind (arith, ints)

-- and so they lie in it
pub one_tile : (a : Area) (k : Key) → 1 ≤ a.w → 1 ≤ a.h → length (keys_of a) ≡ 1 → slice_get (keys_of a) 0 ≡ Some k → IsWithin a (tile k)
one_tile a k w h n e =
    let held : (p : Point) → holds a p ≡ true → holds (tile k) p ≡ true = held_by_one a k (only_item (keys_of a) k n e) in
    let first : holds (tile k) (point a.x a.y) ≡ true = held (point a.x a.y) (corner_held a w h) in
    let last : holds (tile k) (point (right a -ℤ pos 1) (bottom a -ℤ pos 1)) ≡ true = held (point (right a -ℤ pos 1) (bottom a -ℤ pos 1)) (both_true _ _ (ends a.x a.w w) (ends a.y a.h h)) in
    record {
      left = starts_in (pos 64 *ℤ k.col) a.x 64 (and_left _ _ first);
      right = ends_in (pos 64 *ℤ k.col) (right a) 64 (and_left _ _ last);
      top = starts_in (pos 64 *ℤ k.row) a.y 64 (and_right _ _ first);
      bottom = ends_in (pos 64 *ℤ k.row) (bottom a) 64 (and_right _ _ last);
    }

-- ---- blocks with all points of their tile

edge_is : (a t : ℤ) (n : ℕ) → n ≡ 64 → t ≤ℤ a → (a +ℤ pos n) ≤ℤ (t +ℤ pos 64) → a ≡ t
edge_is a t n e low high = omega (arith, ints)

-- a rectangle of 64 columns and rows in a tile is all of it
pub whole_rect : (a : Area) (k : Key) → IsWithin a (tile k) → a.w ≡ 64 → a.h ≡ 64 → a ≡ tile k
whole_rect a k inside w h =
    let x : a.x ≡ (pos 64 *ℤ k.col) = edge_is a.x (pos 64 *ℤ k.col) a.w w inside.left inside.right in
    let y : a.y ≡ (pos 64 *ℤ k.row) = edge_is a.y (pos 64 *ℤ k.row) a.h h inside.top inside.bottom in
    λ i. area (x i) (y i) (w i) (h i)

-- a point stands where it stands in its tile
whole_place : (k : Key) (p : Point) → IsWorldKey k → holds (tile k) p ≡ true → 64 * (down p % 64) + across p % 64 ≡ place_in (tile k) p
whole_place k p world held =
    let n : ℕ = nat_abs (k.col +ℤ pos 256) in
    let m : ℕ = nat_abs (k.row +ℤ pos 256) in
    let c : ℕ = nat_abs (p.x -ℤ (pos 64 *ℤ k.col)) in
    let r : ℕ = nat_abs (p.y -ℤ (pos 64 *ℤ k.row)) in
    let spot : TileSpot k p n m c r = tile_spot k p world held in
    rw (rest_of p.x n c spot.x spot.col, rest_of p.y m r spot.y spot.row) (turned r c)
  where
    turned : (r c : ℕ) → 64 * r + c ≡ r * 64 + c
    turned r c = omega arith

-- such a block's pixels are the tile's
pub whole_pixels : (b : Piece) (p : Point) → IsPiece b → b.rect ≡ tile b.key → holds (tile b.key) p ≡ true → pixel_at b.pixels p ≡ piece_at b p
whole_pixels b p is whole held =
    ap (λ i. get_or b.pixels i clear) (whole_place b.key p is.key held ∙ ap (λ (a : Area). place_in a p) (sym whole))
