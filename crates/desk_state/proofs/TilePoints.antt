-- Points of a rectangle in its tiles.
use Rattle.std.proofs.Common.{◌≡◌, ◌≤◌, ℕ, true, ◌&&◌, sym, ◌∙◌, arith}
use Rattle.std.specs.Prelude.{ℤ, pos, ◌+ℤ◌, int_le, int_lt, if◌then◌else◌}
use Rattle.std.specs.List.{list_any}
use borrow.Author.Differences.{ints}
use Rattle.geom_core.specs.Areas.{Area, Point, point, holds, meets}
use Rattle.geom_core.specs.Grid.{Key, same_key, keys_of, tile}
use Rattle.geom_core.proofs.Tests.{and_left, and_right, both_true}
use Rattle.geom_core.proofs.Axes.{tiles_met}
use Rattle.geom_core.proofs.Tiles.{key_of_holder, key_is}
use Rattle.doc_model.specs.Shots.{in_tile}

-- a rectangle's tiles are those that it meets
met : (a : Area) (k : Key) → 1 ≤ a.w → 1 ≤ a.h → list_any (same_key k) (keys_of a) ≡ true → meets a (tile k) ≡ true
met a k w n h = sym ((tiles_met a w n).exact k) ∙ h

-- the larger of two numbers
abbrev larger : ℤ → ℤ → ℤ
larger a b = if int_le a b then b else a

in_first : (x t : ℤ) (n : ℕ) → 1 ≤ n → (int_lt x (t +ℤ pos 64) && int_lt t (x +ℤ pos n)) ≡ true → (int_le x (larger x t) && int_lt (larger x t) (x +ℤ pos n)) ≡ true
in_first x t n some h = grind (arith, ints)

in_second : (x t : ℤ) (n : ℕ) → 1 ≤ n → (int_lt x (t +ℤ pos 64) && int_lt t (x +ℤ pos n)) ≡ true → (int_le t (larger x t) && int_lt (larger x t) (t +ℤ pos 64)) ≡ true
in_second x t n some h = grind (arith, ints)

-- a point of the rectangle in one of its tiles
pub record HasPointIn (a : Area) (k : Key) : Type 0 where
  pub point : Point
  pub held : holds a point ≡ true
  pub in_tile : in_tile k point ≡ true

pub point_in : (a : Area) (k : Key) → 1 ≤ a.w → 1 ≤ a.h → list_any (same_key k) (keys_of a) ≡ true → HasPointIn a k
point_in a k w n h =
    let m : meets a (tile k) ≡ true = met a k w n h in
    let p : Point = point (larger a.x (tile k).x) (larger a.y (tile k).y) in
    record {
      point = p;
      held = both_true _ _ (in_first a.x (tile k).x a.w w (and_left _ _ m)) (in_first a.y (tile k).y a.h n (and_right _ _ m));
      in_tile = key_is _ _ (key_of_holder k p (both_true _ _ (in_second a.x (tile k).x a.w w (and_left _ _ m)) (in_second a.y (tile k).y a.h n (and_right _ _ m))));
    }
