-- Which points are damaged after a rectangle was added.
use Rattle.std.proofs.Common.{◌≡◌, ℕ, ◌≤◌, Bool, true, false, ◌&&◌, cond, Option, Some, None, refl, ap, sym, ◌∙◌, arith}
use Rattle.std.specs.Prelude.{ℤ, pos, ◌+ℤ◌, int_le, int_lt}
use borrow.Author.Differences.{ints}
use Rattle.geom_core.specs.Areas.{Area, holds, meets, Point}
use Rattle.geom_core.specs.Overlaps.{common, clipped}
use Rattle.geom_core.specs.Grid.{Key, key_of, tile}
use Rattle.geom_core.proofs.Tests.{and_left, and_right, both_true, taken}
use Rattle.geom_core.proofs.Tiles.{own_tile}
use Rattle.geom_core.proofs.Common.{Sized, common_held, meets_held}
use Rattle.geom_core.proofs.Bounds.{bound_first, bound_second}
use Rattle.frame_core.specs.Marks.{on_canvas}
use Rattle.frame_core.specs.Damage.{Parts, Adds, part_at, part_has, is_damaged, grown, intact}
use Rattle.frame_core.proofs.DamagedParts.{none_intact, no_part}

-- what grows keeps the points of both
pub grown_first : (o c : Option Area) (p : Point) → part_has o p ≡ true → part_has (grown o c) p ≡ true
grown_first None c p h = cc
grown_first (Some a) None p h = h
grown_first (Some a) (Some b) p h = bound_first a b p h

pub grown_second : (o c : Option Area) (p : Point) → part_has c p ≡ true → part_has (grown o c) p ≡ true
grown_second None c p h = h
grown_second (Some a) None p h = cc
grown_second (Some a) (Some b) p h = bound_second a b p h

-- a damaged point lies on the largest canvas
pub damaged_on_canvas : (parts : Parts) (p : Point) → is_damaged parts p ≡ true → on_canvas (key_of p) ≡ true
damaged_on_canvas parts p h = go (on_canvas (key_of p)) refl
  where
    go : (b : Bool) → on_canvas (key_of p) ≡ b → b ≡ true
    go true e = refl
    go false e = ap (λ o. part_has o p) (sym (no_part parts (key_of p) e)) ∙ h

on_new : (a : Area) (old new : Parts) → Adds a old new → (p : Point) → on_canvas (key_of p) ≡ true → is_damaged new p ≡ part_has (grown (part_at old (key_of p)) (clipped a (tile (key_of p)))) p
on_new a old new h p e = ap (λ o. part_has o p) (h (key_of p) ∙ taken (on_canvas (key_of p)) (grown (part_at old (key_of p)) (clipped a (tile (key_of p)))) None e)

-- whatever was damaged still is
pub stays_damaged : (a : Area) (old new : Parts) → Adds a old new → (p : Point) → is_damaged old p ≡ true → is_damaged new p ≡ true
stays_damaged a old new h p d = on_new a old new h p (damaged_on_canvas old p d) ∙ grown_first (part_at old (key_of p)) (clipped a (tile (key_of p))) p d

some_along : (a x : ℤ) (n : ℕ) → (int_le a x && int_lt x (a +ℤ pos n)) ≡ true → 1 ≤ n
some_along a x n h = grind (arith, ints)

sized : (a : Area) (p : Point) → holds a p ≡ true → Sized a
sized a p h = record { w = some_along a.x p.x a.w (and_left _ _ h); h = some_along a.y p.y a.h (and_right _ _ h) }

-- the common part has the common points
pub clipped_has : (a b : Area) (p : Point) → holds a p ≡ true → holds b p ≡ true → part_has (clipped a b) p ≡ true
clipped_has a b p h k = let m : meets a b ≡ true = meets_held a b p h k in
    ap (λ o. part_has o p) (taken (meets a b) (Some (common a b)) None m) ∙ common_held a b p m (sized a p h) (sized b p k) ∙ both_true _ _ h k

-- each point of the rectangle on the largest canvas is damaged
pub becomes_damaged : (a : Area) (old new : Parts) → Adds a old new → (p : Point) → holds a p ≡ true → on_canvas (key_of p) ≡ true → is_damaged new p ≡ true
becomes_damaged a old new h p d e = on_new a old new h p e ∙ grown_second (part_at old (key_of p)) (clipped a (tile (key_of p))) p (clipped_has a (tile (key_of p)) p d (own_tile p))

not_so : (b c : Bool) → (b ≡ true → c ≡ true) → c ≡ false → b ≡ false
not_so true c f e = sym (f refl) ∙ e
not_so false c f e = refl

-- a point that isn't damaged now wasn't before
pub undamaged_before : (a : Area) (old new : Parts) → Adds a old new → (p : Point) → is_damaged new p ≡ false → is_damaged old p ≡ false
undamaged_before a old new h p e = not_so (is_damaged old p) (is_damaged new p) (stays_damaged a old new h p) e

-- nor does the rectangle hold it
pub undamaged_outside : (a : Area) (old new : Parts) → Adds a old new → (p : Point) → on_canvas (key_of p) ≡ true → is_damaged new p ≡ false → holds a p ≡ false
undamaged_outside a old new h p c e = not_so (holds a p) (is_damaged new p) (λ d. becomes_damaged a old new h p d c) e

-- where nothing is damaged no point is
pub intact_at : (p : Point) → is_damaged intact p ≡ false
intact_at p = ap (λ o. part_has o p) (none_intact (key_of p))

-- where all is damaged each point of the largest canvas is
pub all_damaged : (parts : Parts) → ((k : Key) → part_at parts k ≡ cond (on_canvas k) (Some (tile k)) None) → (p : Point) → on_canvas (key_of p) ≡ true → is_damaged parts p ≡ true
all_damaged parts h p e = ap (λ o. part_has o p) (h (key_of p) ∙ taken (on_canvas (key_of p)) (Some (tile (key_of p))) None e) ∙ own_tile p

-- a tile without a damaged part has no damaged point
pub undamaged_tile : (parts : Parts) (p : Point) → part_at parts (key_of p) ≡ None → is_damaged parts p ≡ false
undamaged_tile parts p e = ap (λ o. part_has o p) e
