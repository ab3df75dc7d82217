-- Passes over a list, by what is left of it.
use Rattle.std.proofs.Common.{◌≡◌, ℕ, zero, suc, ◌+◌, ◌≤◌, Bool, true, false, ◌||◌, ◌&&◌, List, [], ◌∷◌, length, drop, Some, sym, ap, ◌∙◌}
use Rattle.std.specs.Prelude.{slice_get}
use Rattle.std.specs.List.{list_any, list_all}
use Rattle.std.proofs.lemmas.List.{drop_all}
use Rattle.geom_core.proofs.Tests.{or_left, or_right}
use Rattle.update_queue.proofs.Elements.{drop_here}

module _ {A : Type 0} where
  -- one that fits stands in the list
  pub any_at : (f : A → Bool) (xs : List A) (i : ℕ) (x : A) → slice_get xs i ≡ Some x → f x ≡ true → list_any f xs ≡ true
  any_at f [] i x h e = cc
  any_at f (y ∷ xs) zero x h e = let same : y ≡ x = cc in or_left (f y) (list_any f xs) (ap f same ∙ e)
  any_at f (y ∷ xs) (suc i) x h e = or_right (f y) (list_any f xs) (any_at f xs i x h e)

  module _ (f : A → Bool) (xs : List A) (i : ℕ) where
    -- whether one fits
    pub any_passed : (x : A) → slice_get xs i ≡ Some x → f x ≡ false → list_any f (drop i xs) ≡ list_any f xs → list_any f (drop (i + 1) xs) ≡ list_any f xs
    any_passed x h off so_far = sym (ap (list_any f) (drop_here xs i x h) ∙ ap (λ b. b || list_any f (drop (i + 1) xs)) off) ∙ so_far

    pub any_ended : length xs ≤ i → list_any f (drop i xs) ≡ list_any f xs → list_any f xs ≡ false
    any_ended past so_far = sym so_far ∙ ap (list_any f) (drop_all i xs past)

    -- whether all fit
    pub all_passed : (x : A) → slice_get xs i ≡ Some x → f x ≡ true → list_all f (drop i xs) ≡ list_all f xs → list_all f (drop (i + 1) xs) ≡ list_all f xs
    all_passed x h on so_far = sym (ap (list_all f) (drop_here xs i x h) ∙ ap (λ b. b && list_all f (drop (i + 1) xs)) on) ∙ so_far

    pub all_failed : (x : A) → slice_get xs i ≡ Some x → f x ≡ false → list_all f (drop i xs) ≡ list_all f xs → list_all f xs ≡ false
    all_failed x h off so_far = sym so_far ∙ ap (list_all f) (drop_here xs i x h) ∙ ap (λ b. b && list_all f (drop (i + 1) xs)) off

    pub all_ended : length xs ≤ i → list_all f (drop i xs) ≡ list_all f xs → list_all f xs ≡ true
    all_ended past so_far = sym so_far ∙ ap (list_all f) (drop_all i xs past)
