-- Tests that all tiles of rectangles pass, and all groups of a path.
use Rattle.std.proofs.Common.{◌≡◌, ℕ, Bool, true, List, [], ◌∷◌, refl, sym, ap, ◌∙◌, arith, eqb, inl, inr}
use Rattle.std.specs.List.{list_any, list_all}
use Rattle.std.proofs.lemmas.Bool.Decides.{nat_tests}
use Rattle.geom_core.specs.Grid.{Key, same_key}
use Rattle.geom_core.proofs.Tests.{and_left, and_right, both_true, or_cases, or_left, or_right, equal_test}
use Rattle.geom_core.proofs.Tiles.{key_same, key_is}
use Rattle.machine_model.specs.Groups.{on}
use Rattle.std.proofs.lemmas.Bool.{eqb-true}

-- a test that all keys pass
pub all_pass : (P : Key → Bool) (keys : List Key) → list_all P keys ≡ true → (key : Key) → list_any (same_key key) keys ≡ true → P key ≡ true
all_pass P [] all key h = cc
all_pass P (k ∷ ks) all key h = elim (or_cases (same_key key k) (list_any (same_key key) ks) h) [
  | inl e ↦ ap P (key_same key k e) ∙ and_left _ _ all
  | inr e ↦ all_pass P ks (and_right _ _ all) key e
]

-- and back
pub pass_all : (P : Key → Bool) (keys : List Key) → ((key : Key) → list_any (same_key key) keys ≡ true → P key ≡ true) → list_all P keys ≡ true
pass_all P [] each = refl
pass_all P (k ∷ ks) each = both_true _ _ (each k (or_left (same_key k k) _ (key_is k k refl))) (pass_all P ks (λ key h. each key (or_right (same_key key k) _ h)))

-- a test that all groups pass
pub all_on : (P : ℕ → Bool) (gs : List ℕ) → list_all P gs ≡ true → (g : ℕ) → on g gs ≡ true → P g ≡ true
all_on P [] all g h = cc
all_on P (q ∷ gs) all g h = elim (or_cases (eqb q g) (on g gs) h) [
  | inl e ↦ ap P (sym (eqb-true q g e)) ∙ and_left _ _ all
  | inr e ↦ all_on P gs (and_right _ _ all) g e
]

-- and back
pub on_all : (P : ℕ → Bool) (gs : List ℕ) → ((g : ℕ) → on g gs ≡ true → P g ≡ true) → list_all P gs ≡ true
on_all P [] each = refl
on_all P (q ∷ gs) each = both_true _ _ (each q (or_left (eqb q q) _ (equal_test q))) (on_all P gs (λ g h. each g (or_right (eqb q g) _ h)))

-- a place is the one that was tested
pub same_place : (a b : ℕ) → eqb a b ≡ true → a ≡ b
same_place a b h = eqb-true a b h

pub own_place : (a : ℕ) → eqb a a ≡ true
own_place a = equal_test a
