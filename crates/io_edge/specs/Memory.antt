-- What a source and a sink in memory stand for.
use Rattle.std.specs.Prelude.{ℕ, ◌==◌, Bool, List}
use Rattle.std.specs.List.{list_any}

-- whether the call of that number is to fail
abbrev pub fails_at : List ℕ → ℕ → Bool
fails_at failing call = list_any (λ n. n == call) failing

-- the bytes left, the most that a call passes, the numbers of the calls that fail, and how many calls and faults there were
pub record Supply : Type 0 where
  pub left : List ℕ
  pub most : ℕ
  pub failing : List ℕ
  pub calls : ℕ
  pub faults : ℕ

-- the bytes taken, how many places are free, the most that a call passes, the numbers of the calls that fail, how many calls and
-- faults there were, and how many writes came at a full room
pub record Store : Type 0 where
  pub taken : List ℕ
  pub free : ℕ
  pub most : ℕ
  pub failing : List ℕ
  pub calls : ℕ
  pub faults : ℕ
  pub full_writes : ℕ
