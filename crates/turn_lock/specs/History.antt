-- Histories: which are legal, and what each artist made in them.
use Rattle.std.specs.Prelude.{◌≡◌, ℕ, ◌<◌, ◌==◌, Bool, true, ◌&&◌, List, [], ◌∷◌, ◌++◌}
use Rattle.std.specs.List.{count_by, filter}
use mathlib.Core.List.{IsPrefix}

-- how often a number stands in a list
abbrev pub times : ℕ → List ℕ → ℕ
times k numbers = count_by (λ n. n == k) numbers

abbrev pub Has : List ℕ → ℕ → Type 0
Has numbers k = 0 < times k numbers

module _ {E : Type 0} (artist : E → ℕ) where
  -- the entries of one artist, in their order
  abbrev pub made_by : ℕ → List E → List E
  made_by k entries = filter (λ e. artist e == k) entries

module _ {E : Type 0} (lawful : List E → E → Bool) where
  -- each entry was lawful after those before it
  abbrev pub is_legal_after : List E → List E → Bool
  is_legal_after before [] = true
  is_legal_after before (e ∷ rest) = lawful before e && is_legal_after (before ++ e ∷ []) rest

  abbrev pub IsLegal : List E → Type 0
  IsLegal entries = is_legal_after [] entries ≡ true

-- A legal history that begins with all that was seen. Of the artists with these numbers it has just the entries that were made, each once, in their order.
pub record Continues {E : Type 0} (artist : E → ℕ) (lawful : List E → E → Bool) (numbers : List ℕ) (made seen history : List E) : Type 0 where
  pub legal : IsLegal lawful history
  pub begins : IsPrefix seen history
  pub own : (k : ℕ) → Has numbers k → made_by artist k history ≡ made_by artist k made
