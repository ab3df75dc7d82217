-- Parts of tiles, and their points.
use Rattle.std.proofs.Common.{◌≡◌, ℕ, ◌%◌, true, ◌&&◌, Result, Ok, Err, to_z, of_z, w32, refl, ap, subst, ◌∙◌, arith}
use Rattle.std.specs.Prelude.{ℤ, pos, negsuc, ◌+ℤ◌, ◌-ℤ◌, ◌*ℤ◌, int_le, int_lt, ◌≤ℤ◌, ◌<ℤ◌, nat_abs}
use Rattle.std.specs.Result.{OnErr, IfOk, IsOk}
use borrow.Author.Differences.{ints}
use Rattle.geom_core.specs.Areas.{Area, area, holds, Point}
use Rattle.geom_core.specs.Rects.{IsWithin, IsShared, IsInWorld}
use Rattle.geom_core.specs.Grid.{Key, key_of, same_key, tile}
use Rattle.geom_core.proofs.Tests.{and_left, and_right, both_true}
use Rattle.geom_core.proofs.Tiles.{holder, key_of_holder, key_same, key_is}
use Rattle.tile_core.specs.Pixels.{whole_tile}
use Rattle.tile_core.proofs.Taken.{within_holds}
use Rattle.compose_core.specs.declared.spot.Spot.{Spot}
use Rattle.compose_core.specs.Spots.{IsSpot, part_in_tile, point_in_tile}

-- the tile of a key holds its points
pub tile_held : (k : Key) (p : Point) → same_key (key_of p) k ≡ true → holds (tile k) p ≡ true
tile_held k p h = (holder p k).0 (key_same (key_of p) k h)

-- a point of the part lies in the part's tile
pub part_key : (s : Spot) (p : Point) → IsSpot s → holds s.part p ≡ true → same_key (key_of p) s.key ≡ true
part_key s p is h = key_is (key_of p) s.key (key_of_holder s.key p (within_holds s.part (tile s.key) p is.inside h))

-- one axis: how far a number lies from its tile's edge
from_edge : (c x : ℤ) → negsuc 255 ≤ℤ c → (pos 64 *ℤ c) ≤ℤ x → x <ℤ ((pos 64 *ℤ c) +ℤ pos 64) → pos (nat_abs (x +ℤ pos 16384) % 64) ≡ (x -ℤ (pos 64 *ℤ c))
from_edge c x l h k = omega (arith, ints)

both_int : (a b c d : ℤ) → (int_le a b && int_lt c d) ≡ true → (a ≤ℤ b) × (c <ℤ d)
both_int a b c d h = grind (arith, ints)

shifted : (a c x y : ℤ) (n : ℕ) → y ≡ (x -ℤ (pos 64 *ℤ c)) → a ≤ℤ x → x <ℤ (a +ℤ pos n) → (int_le (a -ℤ (pos 64 *ℤ c)) y && int_lt y ((a -ℤ (pos 64 *ℤ c)) +ℤ pos n)) ≡ true
shifted a c x y n e h k = grind (arith, ints)

above_edge : (a c x : ℤ) → (pos 64 *ℤ c) ≤ℤ a → a ≤ℤ x → (pos 64 *ℤ c) ≤ℤ x
above_edge a c x h k = omega (arith, ints)

below_edge : (a c x : ℤ) (n : ℕ) → (a +ℤ pos n) ≤ℤ ((pos 64 *ℤ c) +ℤ pos 64) → x <ℤ (a +ℤ pos n) → x <ℤ ((pos 64 *ℤ c) +ℤ pos 64)
below_edge a c x n h k = omega (arith, ints)

held_along : (a c x : ℤ) (n : ℕ) → negsuc 255 ≤ℤ c → (pos 64 *ℤ c) ≤ℤ a → (a +ℤ pos n) ≤ℤ ((pos 64 *ℤ c) +ℤ pos 64) → (int_le a x && int_lt x (a +ℤ pos n)) ≡ true
    → (int_le (a -ℤ (pos 64 *ℤ c)) (pos (nat_abs (x +ℤ pos 16384) % 64)) && int_lt (pos (nat_abs (x +ℤ pos 16384) % 64)) ((a -ℤ (pos 64 *ℤ c)) +ℤ pos n)) ≡ true
held_along a c x n w l r h =
    let b = both_int a x x (a +ℤ pos n) h in
    shifted a c x (pos (nat_abs (x +ℤ pos 16384) % 64)) n (from_edge c x w (above_edge a c x l b.0) (below_edge a c x n r b.1)) b.0 b.1

-- a point of the part, as its column and row count from the tile's corner
pub spot_held : (s : Spot) (part : Area) (p : Point) → IsSpot s → part ≡ part_in_tile s → holds s.part p ≡ true → holds part (point_in_tile p) ≡ true
spot_held s part p is e h = ap (λ a. holds a (point_in_tile p)) e
    ∙ both_true _ _ (held_along s.part.x s.key.col p.x s.part.w is.key.left is.inside.left is.inside.right (and_left _ _ h)) (held_along s.part.y s.key.row p.y s.part.h is.key.top is.inside.top is.inside.bottom (and_right _ _ h))

from_none : (a b : ℤ) → b ≤ℤ a → pos 0 ≤ℤ (a -ℤ b)
from_none a b h = omega (arith, ints)

to_side : (a b : ℤ) (n : ℕ) → (a +ℤ pos n) ≤ℤ (b +ℤ pos 64) → ((a -ℤ b) +ℤ pos n) ≤ℤ (pos 0 +ℤ pos 64)
to_side a b n h = omega (arith, ints)

pub in_tile_within : (s : Spot) → IsSpot s → IsWithin (part_in_tile s) whole_tile
in_tile_within s is = record {
  left = from_none s.part.x (tile s.key).x is.inside.left;
  right = to_side s.part.x (tile s.key).x s.part.w is.inside.right;
  top = from_none s.part.y (tile s.key).y is.inside.top;
  bottom = to_side s.part.y (tile s.key).y s.part.h is.inside.bottom;
}

after_edge : (a : ℤ) → pos 0 ≤ℤ a → negsuc 16383 ≤ℤ a
after_edge a h = omega (arith, ints)

before_edge : (a : ℤ) (n : ℕ) → (a +ℤ pos n) ≤ℤ (pos 0 +ℤ pos 64) → (a +ℤ pos n) ≤ℤ (negsuc 16383 +ℤ pos 32768)
before_edge a n h = omega (arith, ints)

pub in_tile_world : (a : Area) → IsWithin a whole_tile → IsInWorld a
in_tile_world a is = record { left = after_edge a.x is.left; right = before_edge a.x a.w is.right; top = after_edge a.y is.top; bottom = before_edge a.y a.h is.bottom }

pub ok_inside : {E : Type 0} (r : Result Area E) (a : Area) → OnErr r (IsInWorld a → ⊥) → IsInWorld a → IsOk r
ok_inside (Ok x) a f w = refl
ok_inside (Err e) a f w = absurd (f w)

-- a difference of numbers of the world
pub less : (a b x y : ℤ) → a ≡ x → b ≡ y → negsuc 16383 ≤ℤ a → a ≤ℤ pos 16383 → negsuc 16383 ≤ℤ b → b ≤ℤ pos 16383 → to_z w32 (of_z w32 (to_z w32 (of_z w32 a) -ℤ to_z w32 (of_z w32 b))) ≡ (x -ℤ y)
less a b x y e f h i j k = omega (arith, ints)

pub same_area : {x x' y y' : ℤ} {w w' h h' : ℕ} → x ≡ x' → y ≡ y' → w ≡ w' → h ≡ h' → area x y w h ≡ area x' y' w' h'
same_area e f g h i = area (e i) (f i) (g i) (h i)

-- a result that is known to be there
pub value_of : {E : Type 0} (r : Result Area E) (x a : Area) → r ≡ Ok x → IfOk r (λ c. c ≡ a) → x ≡ a
value_of r x a e h = subst (λ q. IfOk q (λ c. c ≡ a)) e h

-- a point of both rectangles, or of the tile
pub catches_part : (rect part : Area) (k : Key) (t : Area) (p : Point) → t ≡ tile k → IsShared rect t part → holds rect p ≡ true → same_key (key_of p) k ≡ true → holds part p ≡ true
catches_part rect part k t p e shared h s = shared.held p ∙ both_true _ _ h (ap (λ a. holds a p) e ∙ tile_held k p s)

-- one axis: a part that is as large as the tile is the tile
whole_along : (a b x : ℤ) (n : ℕ) → n ≡ 64 → b ≤ℤ a → (a +ℤ pos n) ≤ℤ (b +ℤ pos 64) → (int_le b x && int_lt x (b +ℤ pos 64)) ≡ true → (int_le a x && int_lt x (a +ℤ pos n)) ≡ true
whole_along a b x n e l r h = grind (arith, ints)

pub whole_held : (s : Spot) (p : Point) → IsSpot s → (s.part.w ≡ 64) × (s.part.h ≡ 64) → same_key (key_of p) s.key ≡ true → holds s.part p ≡ true
whole_held s p is all k =
    let h : holds (tile s.key) p ≡ true = tile_held s.key p k in
    both_true _ _ (whole_along s.part.x (tile s.key).x p.x s.part.w all.0 is.inside.left is.inside.right (and_left _ _ h)) (whole_along s.part.y (tile s.key).y p.y s.part.h all.1 is.inside.top is.inside.bottom (and_right _ _ h))
