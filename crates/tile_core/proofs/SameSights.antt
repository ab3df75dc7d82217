-- Shots that have the same pixels.
use Rattle.std.proofs.Common.{◌≡◌, ℕ, ◌+◌, ◌≤◌, ◌&&◌, ◌||◌, Bool, true, false, List, [], ◌∷◌, ◌++◌, length, take, Option, Some, refl, sym, ap, subst, ◌∙◌, arith, ◌⊎◌, inl, inr}
use Rattle.std.specs.Prelude.{ℤ, pos, ◌+ℤ◌, int_le, int_lt, slice_get}
use Rattle.std.specs.FinMap as map
use Rattle.std.specs.List.{list_any}
use borrow.Author.Differences.{ints}
use Rattle.std.proofs.lemmas.List.{take_more}
use Rattle.std.proofs.Math.Seq.{take-length}
use Rattle.std.proofs.lemmas.List.Folds.{list_any-append}
use Rattle.std.proofs.lemmas.Option.{get_or_from_slice_get, slice_get_within}
use Rattle.geom_core.specs.Areas.{Area, holds, Point, point}
use Rattle.geom_core.specs.Rects.{IsWithin, IsShared, any_holds}
use Rattle.geom_core.specs.Grid.{Key, key_of, same_key, tile, keys_of}
use Rattle.geom_core.proofs.Tests.{and_left, and_right, both_true, or_cases}
use Rattle.geom_core.proofs.Tiles.{key_of_holder, key_same, key_is, holder}
use Rattle.geom_core.proofs.Keys.{key_of_held}
use Rattle.tile_core.specs.Pixels.{Pixels, pixel_or}
use Rattle.tile_core.specs.Shots.{Sight, sight_at, ShowsOn, SameInTile}
use Rattle.tile_core.proofs.Taken.{within_holds}

-- what a shot has inside a tile
pub seen : (s : Sight) (k : Key) (a : Area) (o : Option Pixels) (p : Point) → IsWithin a (tile k) → o ≡ map.get s.tiles k → holds a p ≡ true → sight_at s p ≡ pixel_or o s.default_pixel p
seen s k a o p is e h = ap (λ q. pixel_or q s.default_pixel p) (ap (map.get s.tiles) (key_of_holder k p (within_holds a (tile k) p is h)) ∙ sym e)

-- a rectangle with a point has its corner
starts : (a : ℤ) (n : ℕ) → 1 ≤ n → (int_le a a && int_lt a (a +ℤ pos n)) ≡ true
starts a n h = grind (arith, ints)

pub corner_held : (a : Area) → 1 ≤ a.w → 1 ≤ a.h → holds a (point a.x a.y) ≡ true
corner_held a w h = both_true _ _ (starts a.x a.w w) (starts a.y a.h h)

-- the points of a rectangle in a tile are those of its part there
module _ (s other : Sight) (k : Key) (a area part : Area) (e : area ≡ tile k) (shared : IsShared a area part) where
  pub part_within : IsWithin part (tile k)
  part_within = subst (λ b. IsWithin part b) e shared.in_b

  pub in_tile_of_part : ShowsOn part other (sight_at s) → SameInTile k a s other
  in_tile_of_part same p h at = same p (shared.held p ∙ both_true _ _ h (ap (λ b. holds b p) e ∙ (holder p k).0 (key_same (key_of p) k at)))

  pub part_of_in_tile : SameInTile k a s other → ShowsOn part other (sight_at s)
  part_of_in_tile same p h =
      let both : (holds a p && holds area p) ≡ true = sym (shared.held p) ∙ h in
      same p (and_left _ _ both) (key_is (key_of p) k (key_of_holder k p (ap (λ b. holds b p) (sym e) ∙ and_right (holds a p) (holds area p) both)))

pub none_in_tile : (s other : Sight) (k : Key) (a area : Area) → area ≡ tile k → ((p : Point) → holds a p ≡ true → holds area p ≡ false) → SameInTile k a s other
none_in_tile s other k a area e apart p h at = absurd (no (sym (apart p h) ∙ ap (λ b. holds b p) e ∙ (holder p k).0 (key_same (key_of p) k at)))
  where
    no : false ≡ true → ⊥
    no e = cc

-- both are the same on the tiles so far
abbrev pub SameUpTo : Sight → Sight → Area → ℕ → Type 0
SameUpTo s other a i = (p : Point) → holds a p ≡ true → list_any (same_key (key_of p)) (take i (keys_of a)) ≡ true → sight_at s p ≡ sight_at other p

pub or_none : (b : Bool) → (b || false) ≡ true → b ≡ true
or_none true e = refl
or_none false e = e

pub one_tile_more : (s other : Sight) (a : Area) (i : ℕ) (k : Key) → slice_get (keys_of a) i ≡ Some k → SameUpTo s other a i → SameInTile k a s other → SameUpTo s other a (i + 1)
one_tile_more s other a i k e so same p h any =
    let longer : take (i + 1) (keys_of a) ≡ take i (keys_of a) ++ k ∷ [] = take_more (keys_of a) i k (slice_get_within (keys_of a) i k e) ∙ ap (λ (x : Key). take i (keys_of a) ++ x ∷ []) (get_or_from_slice_get (keys_of a) i k k e) in
    go (or_cases (list_any (same_key (key_of p)) (take i (keys_of a))) (same_key (key_of p) k || false) (sym (list_any-append (same_key (key_of p)) (take i (keys_of a)) (k ∷ [])) ∙ ap (list_any (same_key (key_of p))) (sym longer) ∙ any))
  where
    go : (list_any (same_key (key_of p)) (take i (keys_of a)) ≡ true) ⊎ ((same_key (key_of p) k || false) ≡ true) → sight_at s p ≡ sight_at other p
    go (inl before) = so p h before
    go (inr here) = same p h (or_none (same_key (key_of p) k) here)

pub all_tiles : (s other : Sight) (a : Area) (i : ℕ) → length (keys_of a) ≤ i → i ≤ length (keys_of a) → SameUpTo s other a i → ShowsOn a other (sight_at s)
all_tiles s other a i low high so p h =
    let n : i ≡ length (keys_of a) = omega arith in
    so p h (ap (list_any (same_key (key_of p))) (ap (λ m. take m (keys_of a)) n ∙ take-length (keys_of a)) ∙ key_of_held a p h)

-- both are the same on the rectangles so far
abbrev pub SameOnFirst : Sight → Sight → List Area → ℕ → Type 0
SameOnFirst s other rects i = (p : Point) → any_holds (take i rects) p ≡ true → sight_at s p ≡ sight_at other p
