-- The tiles of rectangles, one after another.
use Rattle.std.proofs.Common.{◌≡◌, ℕ, zero, suc, ◌+◌, ◌≤◌, Bool, true, false, ◌&&◌, List, [], ◌∷◌, length, drop, take, Some, Ordering, Less, Equal, Greater, is_eq, refl, sym, ap, ◌∙◌}
use Rattle.std.specs.Ordering.{int_cmp, int_eq, ordering_then}
use Rattle.std.specs.Prelude.{slice_get}
use Rattle.std.specs.List.{list_any, list_all, IsDistinct}
use Rattle.std.proofs.lemmas.List.{drop_all}
use Rattle.std.proofs.lemmas.List.Folds.{list_all-append, list_any-append}
use Rattle.std.proofs.lemmas.Map.Keys.{IsDistinct-head, IsDistinct-tail}
use Rattle.geom_core.specs.Areas.{Area}
use Rattle.geom_core.specs.Grid.{Key, same_key, keys_of, all_keys_of}
use Rattle.geom_core.proofs.Tests.{or_left, or_right, neither}
use Rattle.geom_core.proofs.Tiles.{key_same, key_is}
use Rattle.machine_model.proofs.Lists.{all_get}
use Rattle.update_queue.proofs.Elements.{drop_here}
use Rattle.filmed_caches.proofs.Passes.{any_at}

then_is : (o p : Ordering) → is_eq (ordering_then o p) ≡ (is_eq o && is_eq p)
then_is Less p = refl
then_is Equal p = refl
then_is Greater p = refl

-- whether two keys are one, by their rows and columns
pub key_test : (a b : Key) → same_key a b ≡ (int_eq a.row b.row && int_eq a.col b.col)
key_test a b = then_is (int_cmp a.row b.row) (int_cmp a.col b.col)

-- a tile of the list is in it
pub key_in : (keys : List Key) (i : ℕ) (k : Key) → slice_get keys i ≡ Some k → list_any (same_key k) keys ≡ true
key_in keys i k h = any_at (same_key k) keys i k h (key_is k k refl)

-- a tile of one of the rectangles
pub key_in_one : (rects : List Area) (i : ℕ) (r : Area) (k : Key) → slice_get rects i ≡ Some r → list_any (same_key k) (keys_of r) ≡ true → list_any (same_key k) (all_keys_of rects) ≡ true
key_in_one [] i r k h e = cc
key_in_one (a ∷ rects) zero r k h e =
    let same : a ≡ r = cc in
    list_any-append (same_key k) (keys_of a) (all_keys_of rects) ∙ or_left _ _ (ap (λ b. list_any (same_key k) (keys_of b)) same ∙ e)
key_in_one (a ∷ rects) (suc i) r k h e = list_any-append (same_key k) (keys_of a) (all_keys_of rects) ∙ or_right _ _ (key_in_one rects i r k h e)

-- a pass over the rectangles, by what all their tiles fit
module _ (f : Key → Bool) (rects : List Area) (i : ℕ) where
  all_keys_here : (r : Area) → slice_get rects i ≡ Some r → list_all f (all_keys_of (drop i rects)) ≡ (list_all f (keys_of r) && list_all f (all_keys_of (drop (i + 1) rects)))
  all_keys_here r h = ap (λ rs. list_all f (all_keys_of rs)) (drop_here rects i r h) ∙ list_all-append f (keys_of r) (all_keys_of (drop (i + 1) rects))

  pub rect_passed : (r : Area) → slice_get rects i ≡ Some r → list_all f (keys_of r) ≡ true → list_all f (all_keys_of (drop i rects)) ≡ list_all f (all_keys_of rects) → list_all f (all_keys_of (drop (i + 1) rects)) ≡ list_all f (all_keys_of rects)
  rect_passed r h on so_far = sym (all_keys_here r h ∙ ap (λ b. b && list_all f (all_keys_of (drop (i + 1) rects))) on) ∙ so_far

  pub rect_failed : (r : Area) → slice_get rects i ≡ Some r → list_all f (keys_of r) ≡ false → list_all f (all_keys_of (drop i rects)) ≡ list_all f (all_keys_of rects) → list_all f (all_keys_of rects) ≡ false
  rect_failed r h off so_far = sym so_far ∙ all_keys_here r h ∙ ap (λ b. b && list_all f (all_keys_of (drop (i + 1) rects))) off

  pub rects_ended : length rects ≤ i → list_all f (all_keys_of (drop i rects)) ≡ list_all f (all_keys_of rects) → list_all f (all_keys_of rects) ≡ true
  rects_ended past so_far = sym so_far ∙ ap (λ rs. list_all f (all_keys_of rs)) (drop_all i rects past)

-- where the second isn't the first
pub apart : (a b : Key) → same_key a b ≡ false → same_key b a ≡ false
apart a b e = go (same_key b a) refl
  where
    clash : same_key b a ≡ true → ⊥
    clash h = let f : true ≡ false = sym (key_is a b (sym (key_same b a h))) ∙ e in cc

    go : (c : Bool) → same_key b a ≡ c → c ≡ false
    go false h = refl
    go true h = absurd (clash h)

-- a tile of a list that has each once isn't in the front before it
pub not_before : (keys : List Key) (i : ℕ) (k : Key) → IsDistinct same_key keys → slice_get keys i ≡ Some k → list_any (same_key k) (take i keys) ≡ false
not_before [] i k once h = cc
not_before (x ∷ keys) zero k once h = refl
not_before (x ∷ keys) (suc i) k once h = neither _ _ (apart x k (all_get (λ y. same_key x y ≡ false) keys i k (IsDistinct-head same_key x keys once) h)) (not_before keys i k (IsDistinct-tail same_key x keys once) h)
