-- What is told of bytes that are written in several calls, and of counts of faults.
use Rattle.std.specs.Prelude.{Option, ◌≡◌, ℕ, ◌+◌, List, ◌-◌, ◌++◌, ◌^◌, ◌≤◌, min}
use Rattle.std.specs.Io.KnownBytes.{Appends}

-- known bytes grow by the first of these bytes
abbrev pub AppendsPrefix : Option (List ℕ) → Option (List ℕ) → List ℕ → Type 0
AppendsPrefix old new bs = (front rest : List ℕ) × (bs ≡ front ++ rest) × Appends old new front

-- a count after one more fault; it stays at its last value
abbrev pub one_more : ℕ → ℕ
one_more count = min (count + 1) (2 ^ 64 - 1)

-- a count rose in a call: it is greater now, or stands at its last value
abbrev pub Rose : ℕ → ℕ → Type 0
Rose before now = one_more before ≤ now
