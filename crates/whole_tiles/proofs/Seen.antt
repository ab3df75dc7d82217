-- What a shot's layer shows of the rectangles that a job reads.
use Rattle.std.proofs.Common.{◌≡◌, ℕ, true, ◌&&◌, List, [], ◌∷◌, refl, subst, arith, inl, inr}
use Rattle.std.specs.Prelude.{ℤ, pos, ◌+ℤ◌, int_le}
use Rattle.std.specs.List.{list_any, list_all}
use borrow.Author.Differences.{ints}
use Rattle.geom_core.proofs.Tests.{and_left, and_right, both_true, or_left, or_right, or_cases}
use Rattle.geom_core.specs.Areas.{Area, holds, lies_in, Point}
use Rattle.geom_core.specs.Rects.{any_holds}
use Rattle.tile_core.specs.Shots.{Sight, sight_at}
use Rattle.doc_model.specs.Layers.{at, plain}
use Rattle.doc_model.proofs.LayerLaws.{default-painted}
use Rattle.job_core.specs.Paints.{layer_of}
use Rattle.job_core.proofs.Values.{seen_at}

lies_itself : (a : Area) → lies_in a a ≡ true
lies_itself a = both_true _ _ (at_itself a.x a.w) (at_itself a.y a.h)
  where
    at_itself : (x : ℤ) (n : ℕ) → (int_le x x && int_le (x +ℤ pos n) (x +ℤ pos n)) ≡ true
    at_itself x n = grind (arith, ints)

seen_more : (r : Area) (rects areas : List Area) → list_all (λ a. list_any (lies_in a) rects) areas ≡ true → list_all (λ a. list_any (lies_in a) (r ∷ rects)) areas ≡ true
seen_more r rects [] h = refl
seen_more r rects (a ∷ areas) h = both_true _ _ (or_right (lies_in a r) _ (and_left (list_any (lies_in a) rects) _ h)) (seen_more r rects areas (and_right (list_any (lies_in a) rects) _ h))

-- rectangles lie among themselves
all_seen : (rects : List Area) → list_all (λ a. list_any (lies_in a) rects) rects ≡ true
all_seen [] = refl
all_seen (r ∷ rects) = both_true _ _ (or_left _ _ (lies_itself r)) (seen_more r rects rects (all_seen rects))

pub own_seen : (rects reads : List Area) → rects ≡ reads → list_all (λ a. list_any (lies_in a) rects) reads ≡ true
own_seen rects reads e = subst (λ rs. list_all (λ a. list_any (lies_in a) rects) rs ≡ true) e (all_seen rects)

-- the shot's layer has the shot's default pixel
pub default-layer_of : (s : Sight) → (layer_of s).default_pixel ≡ s.default_pixel
unfolding layer_of plain
default-layer_of s = default-painted s.rects (λ _. true) (sight_at s) (plain s.default_pixel)

-- and the shot's pixels on all that its rectangles cover
pub covered_seen : (s : Sight) (rects : List Area) (p : Point) → list_all (λ (a : Area). list_any (lies_in a) s.rects) rects ≡ true → any_holds rects p ≡ true → at (layer_of s) p ≡ sight_at s p
covered_seen s [] p l h = cc
covered_seen s (a ∷ rest) p l h = elim (or_cases (holds a p) (any_holds rest p) h) [
  | inl e ↦ seen_at s a p (and_left _ _ l) e
  | inr e ↦ covered_seen s rest p (and_right _ _ l) e
]
