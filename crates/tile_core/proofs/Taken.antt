-- A part taken from a tile, point by point.
use Rattle.std.proofs.Common.{◌≡◌, ℕ, ◌+◌, ◌-◌, ◌*◌, ◌%◌, ◌≤◌, ◌<◌, true, ◌&&◌, List, get_or, replicate, Option, refl, sym, ap, ◌∙◌, arith, ltb, leb}
use Rattle.std.specs.Prelude.{ℤ, pos, ◌+ℤ◌, ◌-ℤ◌, ◌*ℤ◌, int_le, int_lt, nat_abs, ◌≤ℤ◌}
use borrow.Author.Differences.{ints}
use Rattle.std.proofs.lemmas.Bool.Decides.{nat_tests}
use Rattle.std.proofs.lemmas.List.{get_or-replicate}
use Rattle.pixel_core.specs.Rgba.{Rgba, clear}
use Rattle.geom_core.specs.Areas.{Area, holds, Point}
use Rattle.geom_core.specs.Grid.{Key, key_of, tile}
use Rattle.geom_core.specs.Keys.{IsWorldKey}
use Rattle.geom_core.specs.Place.{IsOffset}
use Rattle.geom_core.proofs.Tests.{and_left, and_right, both_true}
use Rattle.geom_core.proofs.Spots.{TileSpot, tile_spot}
use Rattle.tile_core.specs.Pixels.{Pixels, pixel_of, pixel_at, pixel_or, HasPixels}
use Rattle.tile_core.specs.Parts.{TakesPart}
use Rattle.geom_core.specs.Rects.{IsWithin, place_in}
use Rattle.std.specs.FinMap as map
use Rattle.geom_core.proofs.Tiles.{key_of_holder}
use Rattle.tile_core.specs.Shots.{Sight, sight_at}
use Rattle.tile_core.proofs.LaidBlocks.{Axis, axis, rest_of}
use Rattle.tile_core.proofs.LaidRows.{next_fits}

along_in : (a b x : ℤ) (n m : ℕ) → b ≤ℤ a → (a +ℤ pos n) ≤ℤ (b +ℤ pos m) → (int_le a x && int_lt x (a +ℤ pos n)) ≡ true → (int_le b x && int_lt x (b +ℤ pos m)) ≡ true
along_in a b x n m p q h = grind (arith, ints)

-- what a rectangle holds is held by one round it
pub within_holds : (a b : Area) (p : Point) → IsWithin a b → holds a p ≡ true → holds b p ≡ true
within_holds a b p is h = both_true _ _ (along_in a.x b.x p.x a.w b.w is.left is.right (and_left _ _ h)) (along_in a.y b.y p.y a.h b.h is.top is.bottom (and_right _ _ h))

-- a number between the part's edges, as one from its left edge on
between : (l c w : ℕ) → (leb l c && ltb c (l + w)) ≡ true → (l + (c - l) ≡ c) × (c - l < w)
between l c w h = grind (arith, nat_tests)

pub has_pixels : (t : Pixels) (k : Key) (a : Area) (ps : List Rgba) (left top : ℕ) → IsWorldKey k → IsWithin a (tile k) → IsOffset left a.x → IsOffset top a.y → 1 ≤ a.w → 1 ≤ a.h
    → TakesPart t (left % 64) (top % 64) a.w a.h ps → HasPixels a (pixel_at t) ps
has_pixels t k a ps left top wk is el et sw sh takes p held =
    let n : ℕ = nat_abs (k.col +ℤ pos 256) in
    let m : ℕ = nat_abs (k.row +ℤ pos 256) in
    let c : ℕ = nat_abs (p.x -ℤ (pos 64 *ℤ k.col)) in
    let r : ℕ = nat_abs (p.y -ℤ (pos 64 *ℤ k.row)) in
    let spot : TileSpot k p n m c r = tile_spot k p wk (within_holds a (tile k) p is held) in
    let f : Axis a.x p.x c left a.w = axis a.x p.x _ n c left a.w spot.left spot.x el is.left is.right sw in
    let g : Axis a.y p.y r top a.h = axis a.y p.y _ m r top a.h spot.top spot.y et is.top is.bottom sh in
    let hx : (int_le a.x p.x && int_lt p.x (a.x +ℤ pos a.w)) ≡ true = and_left _ _ held in
    let hy : (int_le a.y p.y && int_lt p.y (a.y +ℤ pos a.h)) ≡ true = and_right _ _ held in
    let bx : (left % 64 + (c - left % 64) ≡ c) × (c - left % 64 < a.w) = between (left % 64) c a.w (f.inside ∙ hx) in
    let by : (top % 64 + (r - top % 64) ≡ r) × (r - top % 64 < a.h) = between (top % 64) r a.h (g.inside ∙ hy) in
    rw (rest_of p.x n c spot.x spot.col, rest_of p.y m r spot.y spot.row)
    (ap (λ i. get_or ps i clear) (rw (f.apart hx, g.apart hy) refl)
    ∙ takes (c - left % 64) (r - top % 64) bx.1 by.1
    ∙ ap (λ i. pixel_of t i (top % 64 + (r - top % 64))) bx.0 ∙ ap (λ i. pixel_of t c i) by.0)

steps_small : (a x : ℤ) (n : ℕ) → (int_le a x && int_lt x (a +ℤ pos n)) ≡ true → nat_abs (x -ℤ a) < n
steps_small a x n h = grind (arith, ints)

pub place_small : (a : Area) (p : Point) → holds a p ≡ true → place_in a p < a.h * a.w
place_small a p h = omega (arith, next_fits (nat_abs (p.y -ℤ a.y)) a.h a.w (steps_small a.y p.y a.h (and_right _ _ h)), steps_small a.x p.x a.w (and_left _ _ h))

pub plain_pixels : (a : Area) (c : Rgba) → HasPixels a (λ _. c) (replicate (a.h * a.w) c)
plain_pixels a c p h = get_or-replicate (a.h * a.w) (place_in a p) c clear (place_small a p h)

-- the same where the parts have names of their own
pub has_pixels_as : (t t' : Pixels) (k : Key) (a : Area) (ps : List Rgba) (left top w h : ℕ) → IsWorldKey k → IsWithin a (tile k) → IsOffset left a.x → IsOffset top a.y → w ≡ a.w → h ≡ a.h → 1 ≤ w → 1 ≤ h → t' ≡ t
    → TakesPart t' (left % 64) (top % 64) w h ps → HasPixels a (pixel_at t) ps
has_pixels_as t t' k a ps left top w h wk is el et ew eh sw sh e takes =
    let takes' : TakesPart t (left % 64) (top % 64) a.w a.h ps = rw (← e, ← ew, ← eh) takes in
    has_pixels t k a ps left top wk is el et (rw (← ew) sw) (rw (← eh) sh) takes'

-- pixels on a rectangle inside the tile of a key are those of what stands there
pub seen_pixels : (s : Sight) (k : Key) (a : Area) (o : Option Pixels) (ps : List Rgba) → map.get s.tiles k ≡ o → IsWithin a (tile k) → HasPixels a (pixel_or o s.default_pixel) ps → HasPixels a (sight_at s) ps
seen_pixels s k a o ps e is has p held =
    let there : key_of p ≡ k = key_of_holder k p (within_holds a (tile k) p is held) in
    has p held ∙ ap (λ q. pixel_or q s.default_pixel p) (sym e ∙ ap (λ (m : Key). map.get s.tiles m) (sym there))
