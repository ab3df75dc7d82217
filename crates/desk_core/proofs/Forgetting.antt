-- Damage that is left out.
use Rattle.std.proofs.Common.{◌≡◌, ℕ, ◌+◌, ◌≤◌, Bool, true, false, ◌||◌, List, [], ◌∷◌, ◌++◌, take, length, Some, None, refl, sym, ap, ◌∙◌, ◌⊎◌, inl, inr}
use Rattle.std.proofs.lemmas.List.{take_more, take_all}
use Rattle.std.proofs.lemmas.List.Folds.{list_any-append}
use Rattle.std.proofs.lemmas.Option.{slice_get_within, get_or_from_slice_get}
use Rattle.std.specs.Prelude.{slice_get}
use Rattle.std.specs.List.{list_any}
use Rattle.geom_core.specs.Areas.{Area, holds, Point}
use Rattle.geom_core.specs.Grid.{Key, key_of, keys_of, same_key}
use Rattle.geom_core.proofs.Keys.{key_of_held}
use Rattle.geom_core.proofs.Tests.{or_cases}
use Rattle.geom_core.proofs.Tiles.{key_same}
use Rattle.frame_core.specs.Marks.{on_canvas}
use Rattle.frame_core.specs.Damage.{Parts, part_at, part_has, is_damaged}
use Rattle.frame_core.specs.Damage.{Adds}
use Rattle.frame_core.proofs.DamagedPoints.{undamaged_before, undamaged_outside}

-- of these tiles, what is left has all damaged points outside of a rectangle
abbrev pub LeftOn : List Key → Area → Parts → Parts → Type 0
LeftOn keys a old left = (p : Point) → list_any (same_key (key_of p)) keys ≡ true → on_canvas (key_of p) ≡ true → is_damaged left p ≡ false → (is_damaged old p ≡ false) ⊎ (holds a p ≡ true)

-- one tile more
one_more : (keys : List Key) (i : ℕ) (key : Key) (a : Area) (old before left : Parts) → slice_get keys i ≡ Some key → LeftOn (take i keys) a old before → ((p : Point) → is_damaged left p ≡ false → is_damaged before p ≡ false)
    → ((p : Point) → key_of p ≡ key → on_canvas (key_of p) ≡ true → is_damaged left p ≡ false → (is_damaged old p ≡ false) ⊎ (holds a p ≡ true)) → LeftOn (take (i + 1) keys) a old left
one_more keys i key a old before left at so_far grows here p among on whole =
    elim (or_cases (list_any (same_key (key_of p)) (take i keys)) (list_any (same_key (key_of p)) (key ∷ [])) (sym (list_any-append (same_key (key_of p)) (take i keys) (key ∷ [])) ∙ ap (list_any (same_key (key_of p))) (sym longer) ∙ among)) [
      | inl e ↦ so_far p e on (grows p whole)
      | inr e ↦ here p (key_same (key_of p) key (lone (same_key (key_of p) key) e)) on whole
    ]
  where
    longer : take (i + 1) keys ≡ take i keys ++ key ∷ []
    longer = take_more keys i key (slice_get_within keys i key at) ∙ ap (λ (x : Key). take i keys ++ x ∷ []) (get_or_from_slice_get keys i key key at)

    lone : (b : Bool) → (b || false) ≡ true → b ≡ true
    lone true e = refl
    lone false e = e

-- a tile that isn't damaged
pub left_none : (keys : List Key) (i : ℕ) (key : Key) (a : Area) (old left : Parts) → slice_get keys i ≡ Some key → None ≡ part_at old key → LeftOn (take i keys) a old left → LeftOn (take (i + 1) keys) a old left
left_none keys i key a old left at is so_far = one_more keys i key a old left left at so_far (λ p e. e)
    (λ p same on whole. inl (ap (λ o. part_has o p) (ap (part_at old) same ∙ sym is)))

-- a tile whose part lies in the rectangle
pub left_out : (keys : List Key) (i : ℕ) (key : Key) (part a : Area) (old left : Parts) → slice_get keys i ≡ Some key → Some part ≡ part_at old key → ((p : Point) → holds part p ≡ true → holds a p ≡ true) → LeftOn (take i keys) a old left → LeftOn (take (i + 1) keys) a old left
left_out keys i key part a old left at is inside so_far = one_more keys i key a old left left at so_far (λ p e. e)
    (λ p same on whole. go p same (holds part p) refl)
  where
    go : (p : Point) → key_of p ≡ key → (b : Bool) → holds part p ≡ b → (is_damaged old p ≡ false) ⊎ (holds a p ≡ true)
    go p same true e = inr (inside p e)
    go p same false e = inl (ap (λ o. part_has o p) (ap (part_at old) same ∙ sym is) ∙ e)

-- a tile whose part stays
pub left_kept : (keys : List Key) (i : ℕ) (key : Key) (part a : Area) (old before left : Parts) → slice_get keys i ≡ Some key → Some part ≡ part_at old key → Adds part before left → LeftOn (take i keys) a old before → LeftOn (take (i + 1) keys) a old left
left_kept keys i key part a old before left at is adds so_far = one_more keys i key a old before left at so_far (undamaged_before part before left adds)
    (λ p same on whole. inl (ap (λ o. part_has o p) (ap (part_at old) same ∙ sym is) ∙ undamaged_outside part before left adds p on whole))

-- all tiles of a canvas
pub left_whole : (canvas a : Area) (i : ℕ) (old left : Parts) → length (keys_of canvas) ≤ i → LeftOn (take i (keys_of canvas)) a old left → (p : Point) → holds canvas p ≡ true → on_canvas (key_of p) ≡ true → is_damaged left p ≡ false → (is_damaged old p ≡ false) ⊎ (holds a p ≡ true)
left_whole canvas a i old left h so_far p inside = so_far p (ap (list_any (same_key (key_of p))) (take_all i (keys_of canvas) h) ∙ key_of_held canvas p inside)
