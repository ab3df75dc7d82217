-- An entry that a stack has lent.
use Rattle.std.proofs.Common.{◌≡◌, true, false, List, [], ◌∷◌, take, drop, Option, Some, None, refl}
use Rattle.std.specs.Prelude.{◌≢◌, OnSome}

module _ {A : Type 0} where
  pub nothing_is : (xs : List A) → (xs ≢ [] → false ≡ true) → xs ≡ []
  nothing_is [] h = refl
  nothing_is (x ∷ xs) h = absurd (no (h (λ e. cc)))
    where
      no : false ≡ true → ⊥
      no e = cc

  -- the first of a list, and the others
  pub first_is : (xs : List A) (x : A) → take 1 xs ≡ x ∷ [] → xs ≡ x ∷ drop 1 xs
  first_is [] x e = absurd (no e)
    where
      no : [] ≡ x ∷ [] → ⊥
      no e = cc
  first_is (y ∷ xs) x e = λ i. first_or y (e i) ∷ xs
    where
      first_or : A → List A → A
      first_or d [] = d
      first_or d (z ∷ zs) = z

  pub lent_holds : (r : Option A) (x : A) {P : Type 0} → r ≡ Some x → OnSome r P → P
  lent_holds None x e h = absurd (no e)
    where
      no : None ≡ Some x → ⊥
      no e = cc
  lent_holds (Some y) x e h = h
