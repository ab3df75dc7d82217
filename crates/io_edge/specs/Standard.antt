-- A reader or a writer of std with a count of its faults.
use Rattle.std.specs.Prelude.{ℕ}

-- what it stands on, and how often that failed
pub record Counted (T : Type 0) : Type 0 where
  pub inner : T
  pub faults : ℕ
