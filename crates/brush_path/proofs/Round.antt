-- Of the tiles round all dabs of a track those that some dab meets are kept.
use Rattle.std.proofs.Common.{◌≡◌, ℕ, ◌+◌, ◌*◌, ◌≤◌, Bool, true, false, ◌&&◌, ◌||◌, List, [], ◌∷◌, map, refl, sym, ap, ◌∙◌, arith, inl, inr}
use Rattle.std.specs.Prelude.{ℤ, pos, ◌+ℤ◌, ◌-ℤ◌, int_lt, nat_abs}
use Rattle.std.specs.Int.{int_max, int_min}
use Rattle.std.specs.List.{fold, reduce, list_any}
use Rattle.std.specs.Option.{option_map_or}
use Rattle.std.specs.List.Sorted.{IsStrictlySortedBy}
use Rattle.std.proofs.lemmas.List.Kept.{IsStrictlySortedBy-filter}
use Rattle.std.proofs.lemmas.Map.Views.{any-filter_same}
use borrow.Author.Differences.{ints}
use Rattle.geom_core.specs.Areas.{Area, Point, meets}
use Rattle.geom_core.specs.Overlaps.{bound}
use Rattle.geom_core.specs.Grid.{Key, key_cmp, same_key, tile, keys_of}
use Rattle.geom_core.specs.Laws.{HasEachOnce}
use Rattle.geom_core.proofs.Axes.{tiles_met}
use Rattle.geom_core.proofs.Tests.{and_left, and_right, both_true, or_cases, or_left, or_right}
use Rattle.geom_core.proofs.Tiles.{key_same}
use Rattle.doc_model.specs.Trails.{Trail, centres}
use Rattle.doc_model.specs.Jobs.{square}
use Rattle.brush_path.specs.Cells.{is_met, around, cells}
use Rattle.brush_path.proofs.Ordered.{none_sorted}

first_axis : (a b c : ℤ) (n m k : ℕ) → (int_lt a (c +ℤ pos k) && int_lt c (a +ℤ pos n)) ≡ true
    → (int_lt (int_min a b) (c +ℤ pos k) && int_lt c (int_min a b +ℤ pos (nat_abs (int_max (a +ℤ pos n) (b +ℤ pos m) -ℤ int_min a b)))) ≡ true
first_axis a b c n m k h = grind (arith, ints)

second_axis : (a b c : ℤ) (n m k : ℕ) → (int_lt b (c +ℤ pos k) && int_lt c (b +ℤ pos m)) ≡ true
    → (int_lt (int_min a b) (c +ℤ pos k) && int_lt c (int_min a b +ℤ pos (nat_abs (int_max (a +ℤ pos n) (b +ℤ pos m) -ℤ int_min a b)))) ≡ true
second_axis a b c n m k h = grind (arith, ints)

some_axis : (a b : ℤ) (n m : ℕ) → 1 ≤ n → 1 ≤ nat_abs (int_max (a +ℤ pos n) (b +ℤ pos m) -ℤ int_min a b)
some_axis a b n m h = grind (arith, ints)

-- what meets one of two meets the rectangle round both
first_meets : (a b c : Area) → meets a c ≡ true → meets (bound a b) c ≡ true
first_meets a b c h = both_true _ _ (first_axis a.x b.x c.x a.w b.w c.w (and_left _ _ h)) (first_axis a.y b.y c.y a.h b.h c.h (and_right _ _ h))

second_meets : (a b c : Area) → meets b c ≡ true → meets (bound a b) c ≡ true
second_meets a b c h = both_true _ _ (second_axis a.x b.x c.x a.w b.w c.w (and_left _ _ h)) (second_axis a.y b.y c.y a.h b.h c.h (and_right _ _ h))

wide : (a : Area) (rest : List Area) → 1 ≤ a.w → 1 ≤ (fold bound a rest).w
wide a [] h = h
wide a (b ∷ rest) h = wide (bound a b) rest (some_axis a.x b.x a.w b.w h)

high : (a : Area) (rest : List Area) → 1 ≤ a.h → 1 ≤ (fold bound a rest).h
high a [] h = h
high a (b ∷ rest) h = high (bound a b) rest (some_axis a.y b.y a.h b.h h)

round_meets : (k : Key) (a : Area) (rest : List Area) → (meets a (tile k) || list_any (λ b. meets b (tile k)) rest) ≡ true → meets (fold bound a rest) (tile k) ≡ true
round_meets k a [] h = elim (or_cases (meets a (tile k)) false h) [ inl e ↦ e | inr e ↦ cc ]
round_meets k a (b ∷ rest) h = round_meets k (bound a b) rest (elim (or_cases (meets a (tile k)) _ h) [
  | inl e ↦ or_left _ _ (first_meets a b (tile k) e)
  | inr e ↦ elim (or_cases (meets b (tile k)) _ e) [ inl f ↦ or_left _ _ (second_meets a b (tile k) f) | inr f ↦ or_right _ _ f ]
])

-- the tiles of the rectangle round a square and others
round_tiles : (r : ℕ) (c : Point) (rest : List Area) → HasEachOnce (λ k. meets (fold bound (square c.x c.y r) rest) (tile k)) (keys_of (fold bound (square c.x c.y r) rest))
round_tiles r c rest = tiles_met (fold bound (square c.x c.y r) rest) (wide (square c.x c.y r) rest (omega arith)) (high (square c.x c.y r) rest (omega arith))

round_has : (t : Trail) (k : Key) → is_met t k ≡ true → list_any (same_key k) (around t) ≡ true
round_has t k h = go (centres t) h
  where
    go : (cs : List Point) → list_any (λ a. meets a (tile k)) (map (λ (c : Point). square c.x c.y t.stamp.r) cs) ≡ true
        → list_any (same_key k) (option_map_or keys_of (reduce bound (map (λ (c : Point). square c.x c.y t.stamp.r) cs)) []) ≡ true
    go [] h = cc
    go (c ∷ cs) h =
        (round_tiles t.stamp.r c (map (λ (c : Point). square c.x c.y t.stamp.r) cs)).exact k
        ∙ round_meets k (square c.x c.y t.stamp.r) (map (λ (c : Point). square c.x c.y t.stamp.r) cs) h

-- they stand in row order, and are those that some dab meets
pub cells_sorted : (t : Trail) → IsStrictlySortedBy key_cmp (cells t)
unfolding cells
cells_sorted t = IsStrictlySortedBy-filter key_cmp (is_met t) (around t) (go (centres t))
  where
    go : (cs : List Point) → IsStrictlySortedBy key_cmp (option_map_or keys_of (reduce bound (map (λ (c : Point). square c.x c.y t.stamp.r) cs)) [])
    go [] = none_sorted
    go (c ∷ cs) = (round_tiles t.stamp.r c (map (λ (c : Point). square c.x c.y t.stamp.r) cs)).ascending

pub cells_met : (t : Trail) (k : Key) → list_any (same_key k) (cells t) ≡ is_met t k
unfolding cells
cells_met t k = any-filter_same (same_key k) (is_met t) (is_met t k) (λ q e. ap (is_met t) (sym (key_same k q e))) (around t) ∙ go (is_met t k) refl
  where
    go : (b : Bool) → is_met t k ≡ b → (b && list_any (same_key k) (around t)) ≡ b
    go true e = round_has t k e
    go false e = refl
