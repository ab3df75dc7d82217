-- An undo stack as contracts see it.
use Rattle.std.specs.Prelude.{◌≡◌, ℕ, List, ◌∷◌, drop, refl}
use Rattle.std.specs.Coded.{Coded, code_by, coded×, coded_ℕ, coded_list}

-- what can be undone and what can be redone, each from the next one on, and how many more entries fit without memory
pub record Stack (R : Type 0) : Type 0 where
  pub past : List R
  pub future : List R
  pub spare : ℕ

-- a stack is stored as the tuple of its fields
abbrev pub stack_code : {R : Type 0} → Coded R → Coded (Stack R)
stack_code {R} code = code_by (List R × (List R × ℕ)) (coded× (coded_list code) (coded× (coded_list code) coded_ℕ)) (λ s. (s.past, (s.future, s.spare))) (λ t. record { past = t.0; future = t.1.0; spare = t.1.1 }) (λ _. refl)

module _ {R : Type 0} where
  -- the newest of the past has become this entry, the next of the future
  pub record IsUndone (old new : Stack R) (entry : R) : Type 0 where
    pub past : new.past ≡ drop 1 old.past
    pub future : new.future ≡ entry ∷ old.future
    pub spare : new.spare ≡ old.spare

  -- the next of the future has become this entry, the newest of the past
  pub record IsRedone (old new : Stack R) (entry : R) : Type 0 where
    pub past : new.past ≡ entry ∷ old.past
    pub future : new.future ≡ drop 1 old.future
    pub spare : new.spare ≡ old.spare
