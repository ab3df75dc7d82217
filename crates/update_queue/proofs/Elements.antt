-- Lists, element by element.
use Rattle.std.proofs.Common.{◌≡◌, ℕ, zero, suc, ◌+◌, ◌<◌, ◌≤◌, Bool, true, false, ◌||◌, not, cond, List, [], ◌∷◌, ◌++◌, length, take, drop, Some, None, refl, sym, ap, ◌∙◌, arith}
use Rattle.std.specs.Prelude.{Option, slice_get, nat_lt, remove, OnSome, IfNone, MatchOption, HoldsAt}
use Rattle.std.specs.Option.{option_copied}
use Rattle.std.specs.Borrow.{Bor}
use Rattle.std.proofs.lemmas.Option.{slice_get_past, slice_get-get_or}
use Rattle.std.specs.List.{list_any, list_all, position, position_or_len, refill}
use Rattle.std.proofs.lemmas.Bool.Decides.{nat_tests}
use Rattle.geom_core.proofs.Tests.{and_left, and_right, both_true}
use Rattle.arrayvec.specs.ArrayVec.{ArrayVec}

module _ {A : Type 0} where
  -- the list from a place on begins with the element there
  pub drop_here : (xs : List A) (i : ℕ) (x : A) → slice_get xs i ≡ Some x → drop i xs ≡ x ∷ drop (i + 1) xs
  drop_here [] i x h = cc
  drop_here (y ∷ xs) zero x h = ap (λ z. z ∷ xs) (let e : y ≡ x = cc in e)
  drop_here (y ∷ xs) (suc i) x h = drop_here xs i x h ∙ ap (λ n. x ∷ drop n (y ∷ xs)) (let e : suc (i + 1) ≡ suc i + 1 = omega arith in e)

  pub take_here : (xs : List A) (i : ℕ) (x : A) → slice_get xs i ≡ Some x → take (i + 1) xs ≡ take i xs ++ x ∷ []
  take_here [] i x h = cc
  take_here (y ∷ xs) zero x h = ap (λ z. z ∷ []) (let e : y ≡ x = cc in e)
  take_here (y ∷ xs) (suc i) x h = ap (λ n. take n (y ∷ xs)) (let e : suc i + 1 ≡ suc (i + 1) = omega arith in e) ∙ ap (λ ys. y ∷ ys) (take_here xs i x h)

  -- what a read at a place gives
  pub read_at : (r : Option (Bor A)) (xs : List A) (i : ℕ) → MatchOption r (length xs ≤ i) (λ x. (i < length xs) × HoldsAt (λ y. x.now ≡ y) xs i) → option_copied r ≡ slice_get xs i
  read_at None xs i h = sym (slice_get_past xs i h)
  read_at (Some x) xs i h = ap Some (h.1 x.now) ∙ sym (slice_get-get_or xs i x.now h.0)

  -- a list of that length fills the places of another
  pub refilled : (xs ws : List A) → length ws ≡ length xs → refill (length xs) xs ws ≡ ws
  refilled [] [] e = refl
  refilled [] (w ∷ ws) e = absurd (omega arith)
  refilled (x ∷ xs) [] e = absurd (omega arith)
  refilled (x ∷ xs) (w ∷ ws) e = ap (λ ys. w ∷ ys) (refilled xs ws (omega arith))

  pub all-remove : (f : A → Bool) (xs : List A) (i : ℕ) → list_all f xs ≡ true → list_all f (remove xs i) ≡ true
  all-remove f [] zero h = refl
  all-remove f [] (suc i) h = refl
  all-remove f (x ∷ xs) zero h = and_right (f x) _ h
  all-remove f (x ∷ xs) (suc i) h = both_true _ _ (and_left _ _ h) (all-remove f xs i (and_right (f x) _ h))

  pub length-remove : (xs : List A) (i : ℕ) → length (remove xs i) ≤ length xs
  length-remove [] zero = omega arith
  length-remove [] (suc i) = omega arith
  length-remove (x ∷ xs) zero = omega arith
  length-remove (x ∷ xs) (suc i) = let h : length (remove xs i) ≤ length xs = length-remove xs i in omega arith

  remove_none : (xs : List A) (i : ℕ) → slice_get xs i ≡ None → remove xs i ≡ xs
  remove_none [] zero h = refl
  remove_none [] (suc i) h = refl
  remove_none (x ∷ xs) zero h = cc
  remove_none (x ∷ xs) (suc i) h = ap (λ ys. x ∷ ys) (remove_none xs i h)

  -- a place with an element is one of the list
  pub at_place : (xs : List A) (i : ℕ) (x : A) → slice_get xs i ≡ Some x → i < length xs
  at_place [] i x h = cc
  at_place (y ∷ xs) zero x h = omega arith
  at_place (y ∷ xs) (suc i) x h = let rest : i < length xs = at_place xs i x h in omega arith

  -- what is left once the element at a place, if there is one, was taken
  pub popped : (r : Option A) (xs : List A) (i : ℕ) (old new : ArrayVec A) → xs ≡ old.items → r ≡ slice_get old.items i → OnSome r (new.items ≡ remove old.items i) → IfNone r (new ≡ old) → new.items ≡ remove xs i
  popped None xs i old new is e some none = ap (λ (v : ArrayVec A). v.items) none ∙ sym (remove_none old.items i (sym e)) ∙ ap (λ ys. remove ys i) (sym is)
  popped (Some x) xs i old new is e some none = some ∙ ap (λ ys. remove ys i) (sym is)

  -- what holds of all holds of the one at a place
  pub all_at : (f : A → Bool) (xs : List A) (i : ℕ) (x : A) → slice_get xs i ≡ Some x → list_all f xs ≡ true → f x ≡ true
  all_at f [] i x h a = cc
  all_at f (y ∷ xs) zero x h a = ap f (let e : x ≡ y = cc in e) ∙ and_left _ _ a
  all_at f (y ∷ xs) (suc i) x h a = all_at f xs i x h (and_right (f y) _ a)

  -- a place where the test passes first is one where it passes
  pub position_any : (f : A → Bool) (xs : List A) → position_or_len f xs < length xs → list_any f xs ≡ true
  position_any f [] h = absurd (omega arith)
  position_any f (x ∷ xs) h = go (f x) (position_any f xs) h
    where
      go : (b : Bool) → (position_or_len f xs < length xs → list_any f xs ≡ true) → cond (not b) (1 + position_or_len f xs) 0 < suc (length xs) → (b || list_any f xs) ≡ true
      go true rest i = refl
      go false rest i = rest (omega arith)

  pub position_none : (f : A → Bool) (xs : List A) → length xs ≤ position_or_len f xs → list_any f xs ≡ false
  position_none f [] h = refl
  position_none f (x ∷ xs) h = go (f x) (position_none f xs) h
    where
      go : (b : Bool) → (length xs ≤ position_or_len f xs → list_any f xs ≡ false) → suc (length xs) ≤ cond (not b) (1 + position_or_len f xs) 0 → (b || list_any f xs) ≡ false
      go true rest i = absurd (omega arith)
      go false rest i = rest (omega arith)

  pub position-Some : (f : A → Bool) (xs : List A) (i : ℕ) → position f xs ≡ Some i → (position_or_len f xs ≡ i) × (position_or_len f xs < length xs)
  position-Some f xs i h = go (nat_lt (position_or_len f xs) (length xs)) refl h
    where
      go : (b : Bool) → nat_lt (position_or_len f xs) (length xs) ≡ b → cond b (Some (position_or_len f xs)) None ≡ Some i → (position_or_len f xs ≡ i) × (position_or_len f xs < length xs)
      go true e j = (let k : position_or_len f xs ≡ i = cc in k, grind (arith, nat_tests))
      go false e j = cc

  -- the place is one of the list's
  pub position_is : (f : A → Bool) (xs : List A) (i : ℕ) → i < length xs → position_or_len f xs ≡ i → position f xs ≡ Some i
  position_is f xs i within at = ap (λ b. cond b (Some (position_or_len f xs)) None) (yes) ∙ ap Some at
    where
      yes : nat_lt (position_or_len f xs) (length xs) ≡ true
      yes = let here : position_or_len f xs < length xs = omega arith in grind (arith, nat_tests)

  pub position-None : (f : A → Bool) (xs : List A) → position f xs ≡ None → length xs ≤ position_or_len f xs
  position-None f xs h = go (nat_lt (position_or_len f xs) (length xs)) refl h
    where
      go : (b : Bool) → nat_lt (position_or_len f xs) (length xs) ≡ b → cond b (Some (position_or_len f xs)) None ≡ None → length xs ≤ position_or_len f xs
      go true e j = cc
      go false e j = grind (arith, nat_tests)
