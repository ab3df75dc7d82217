-- Blocks that have a job's value.
use Rattle.std.proofs.Common.{◌≡◌, ℕ, ◌≤◌, Bool, true, false, ◌&&◌, List, [], ◌∷◌, ◌++◌, take, drop, length, get_or, refl, sym, ap, ◌∙◌, subst, arith, inl, inr, append-nil}
use Rattle.std.specs.List.{list_any}
use Rattle.std.specs.Prelude.{ℤ, pos, ◌+ℤ◌, ◌*ℤ◌, ◌≤ℤ◌, ◌<ℤ◌, negsuc, int_le, int_lt}
use borrow.Author.Differences.{ints}
use Rattle.std.proofs.Math.Seq.{take-append_seam}
use Rattle.std.proofs.lemmas.Bool.Decides.{nat_tests}
use Rattle.std.proofs.lemmas.List.Elements.{All-from_recursion}
use Rattle.pixel_core.specs.Rgba.{Rgba, clear}
use Rattle.geom_core.specs.Areas.{Area, holds, lies_in, meets, world, Point}
use Rattle.geom_core.specs.Rects.{any_holds, place_in, IsShared}
use Rattle.geom_core.specs.Grid.{Key, key_of, same_key, tile, keys_of, all_keys_of}
use Rattle.geom_core.specs.Keys.{IsWorldKey}
use Rattle.geom_core.proofs.Tests.{and_left, and_right, both_true, or_left, or_right, or_cases, taken, or-false}
use Rattle.geom_core.proofs.Bounds.{lies_held}
use Rattle.geom_core.proofs.Axes.{tiles_met}
use Rattle.geom_core.proofs.Tiles.{key_of_holder, key_is, key_same, own_tile}
use Rattle.tile_core.specs.Blocks.{Piece, piece}
use Rattle.tile_core.specs.Shots.{Sight, sight_at}
use Rattle.tile_core.specs.Pixels.{HasPixels}
use Rattle.doc_model.specs.declared.job.Job.{Job}
use Rattle.doc_model.specs.Jobs.{apply, writes, value}
use Rattle.doc_model.specs.Shots.{in_tile}
use Rattle.doc_model.specs.Lawful.{of_limits}
use Rattle.doc_model.specs.Layers.{at, plain}
use Rattle.doc_model.proofs.LayerLaws.{at-painted}
use Rattle.doc_model.proofs.JobLaws.{at-apply}
use Rattle.job_core.specs.Paints.{layer_of, paint, HasValue, IsPainted}
use Rattle.job_core.specs.Made.{IsBlock}

-- ---- the key

-- a rectangle with at least one point
abbrev pub HasPoints : Area → Type 0
HasPoints a = (1 ≤ a.w) × (1 ≤ a.h)

pub some_of_limits : (a : Area) → of_limits a ≡ true → HasPoints a
some_of_limits a h = (grind (arith, nat_tests), grind (arith, nat_tests))

axis_known : (a k : ℤ) (n : ℕ) → (int_le (negsuc 16383) a && int_le (a +ℤ pos n) (negsuc 16383 +ℤ pos 32768)) ≡ true → (int_lt a ((pos 64 *ℤ k) +ℤ pos 64) && int_lt (pos 64 *ℤ k) (a +ℤ pos n)) ≡ true → (negsuc 255 ≤ℤ k) × (k <ℤ pos 256)
axis_known a k n l m = (low a k n l m, high a k n l m)
  where
    low : (a k : ℤ) (n : ℕ) → (int_le (negsuc 16383) a && int_le (a +ℤ pos n) (negsuc 16383 +ℤ pos 32768)) ≡ true → (int_lt a ((pos 64 *ℤ k) +ℤ pos 64) && int_lt (pos 64 *ℤ k) (a +ℤ pos n)) ≡ true → negsuc 255 ≤ℤ k
    low a k n l m = grind (arith, ints)

    high : (a k : ℤ) (n : ℕ) → (int_le (negsuc 16383) a && int_le (a +ℤ pos n) (negsuc 16383 +ℤ pos 32768)) ≡ true → (int_lt a ((pos 64 *ℤ k) +ℤ pos 64) && int_lt (pos 64 *ℤ k) (a +ℤ pos n)) ≡ true → k <ℤ pos 256
    high a k n l m = grind (arith, ints)

-- a tile that a rectangle of the world meets is one of the world's
pub world_key : (a : Area) (k : Key) → lies_in a world ≡ true → meets a (tile k) ≡ true → IsWorldKey k
world_key a k l m =
    let x : (negsuc 255 ≤ℤ k.col) × (k.col <ℤ pos 256) = axis_known a.x k.col a.w (and_left _ _ l) (and_left _ _ m) in
    let y : (negsuc 255 ≤ℤ k.row) × (k.row <ℤ pos 256) = axis_known a.y k.row a.h (and_right _ _ l) (and_right _ _ m) in
    record { left = x.0; right = x.1; top = y.0; bottom = y.1 }

-- the tiles of a rectangle are those that it meets
pub key_met : (a : Area) (k : Key) → HasPoints a → list_any (same_key k) (keys_of a) ≡ true → meets a (tile k) ≡ true
key_met a k s h = sym ((tiles_met a s.0 s.1).exact k) ∙ h

pub one_met : (a : Area) (k : Key) → HasPoints a → list_any (same_key k) (all_keys_of (a ∷ [])) ≡ true → meets a (tile k) ≡ true
one_met a k s h = key_met a k s (ap (list_any (same_key k)) (sym (append-nil (keys_of a))) ∙ h)

-- ---- the shot

-- what lies in one of the rectangles is held by one of them
any_lies : (a : Area) (rects : List Area) (p : Point) → list_any (lies_in a) rects ≡ true → holds a p ≡ true → any_holds rects p ≡ true
any_lies a [] p l h = l
any_lies a (b ∷ rest) p l h = elim (or_cases (lies_in a b) (list_any (lies_in a) rest) l) [
  | inl e ↦ or_left (holds b p) (any_holds rest p) (lies_held a b e p h)
  | inr e ↦ or_right (holds b p) (any_holds rest p) (any_lies a rest p e h)
]

at-layer_of : (s : Sight) (p : Point) → any_holds s.rects p ≡ true → at (layer_of s) p ≡ sight_at s p
unfolding layer_of
at-layer_of s p h = at-painted s.rects (λ _. true) (sight_at s) (plain s.default_pixel) p ∙ taken (any_holds s.rects p && true) (sight_at s p) (at (plain s.default_pixel) p) (both_true _ _ h refl)

-- what the layer has at a point of a rectangle that the shot covers
pub seen_at : (s : Sight) (a : Area) (p : Point) → list_any (lies_in a) s.rects ≡ true → holds a p ≡ true → at (layer_of s) p ≡ sight_at s p
seen_at s a p l h = at-layer_of s p (any_lies a s.rects p l h)

-- ---- blocks

pub block_of : (key : Key) (part : Area) (f : Point → Rgba) (ps : List Rgba) (b : Piece) → b ≡ piece key part ps → HasPixels part f ps → IsBlock key part f b
block_of key part f ps b e has = subst (IsBlock key part f) (sym e) (record { key_is = refl; rect_is = refl; pixels = has })

-- the value of a job at a point of its writes
pub value_at : (job : Job) (s : Sight) (p : Point) → any_holds (writes job) p ≡ true → at (apply job (layer_of s)) p ≡ value job (layer_of s) p
value_at job s p h = at-apply job (layer_of s) p ∙ taken (any_holds (writes job) p) (value job (layer_of s) p) (at (layer_of s) p) h

pub has_value : (job : Job) (s : Sight) (key : Key) (part : Area) (f : Point → Rgba) (b : Piece) → IsBlock key part f b
    → ((p : Point) → holds part p ≡ true → f p ≡ at (apply job (layer_of s)) p) → HasValue job s key b
has_value job s key part f b is same = record {
  key_is = is.key_is;
  value_is = λ p h.
      let held : holds part p ≡ true = ap (λ (a : Area). holds a p) (sym is.rect_is) ∙ h in
      ap (λ (a : Area). get_or b.pixels (place_in a p) clear) is.rect_is ∙ is.pixels p held ∙ same p held;
}

-- the points of a tile are those whose key is its key
pub tile_held : (k : Key) (p : Point) → holds (tile k) p ≡ in_tile k p
tile_held k p = go (holds (tile k) p) refl
  where
    away : (t : Bool) → holds (tile k) p ≡ false → in_tile k p ≡ t → false ≡ t
    away true f h = sym f ∙ ap (λ (m : Key). holds (tile m) p) (sym (key_same (key_of p) k h)) ∙ own_tile p
    away false f h = refl

    go : (t : Bool) → holds (tile k) p ≡ t → t ≡ in_tile k p
    go true h = sym (key_is (key_of p) k (key_of_holder k p h))
    go false h = away (in_tile k p) h refl

-- one block on the part of the one rectangle that a job writes
pub painted_once : (job : Job) (s : Sight) (key : Key) (rect part : Area) (f : Point → Rgba) (b : Piece) → writes job ≡ rect ∷ [] → IsWorldKey key → IsShared rect (tile key) part → IsBlock key part f b
    → ((p : Point) → holds rect p ≡ true → f p ≡ value job (layer_of s) p) → IsPainted (paint job s key (b ∷ []))
painted_once job s key rect part f b wr known shared is same = record {
  key_is = known;
  values = All-from_recursion (HasValue job s key) (b ∷ []) (
    has_value job s key part f b is (λ p h. let held : holds rect p ≡ true = and_left _ _ (sym (shared.held p) ∙ h) in
        same p held ∙ sym (value_at job s p (ap (λ rects. any_holds rects p) wr ∙ or-false (holds rect p) ∙ held))),
    tt,
  );
  covers = λ p. or-false (holds b.rect p) ∙ ap (λ (a : Area). holds a p) is.rect_is ∙ shared.held p
      ∙ ap (λ t. holds rect p && t) (tile_held key p)
      ∙ ap (λ t. t && in_tile key p) (sym (ap (λ rects. any_holds rects p) wr ∙ or-false (holds rect p)));
}

-- a vector whose items were all written over
pub refilled : (n : ℕ) (ws xs : List Rgba) → length ws ≡ n → take n (ws ++ drop (length ws) xs) ≡ ws
refilled n ws xs e = rw (← e) (take-append_seam ws (drop (length ws) xs))
