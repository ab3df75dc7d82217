-- Floats that are whole numbers.
use Rattle.std.specs.Prelude.{ℕ, false}
use lib.Ieee.{Float}
use lib.Ieee.Exact.{HasValue}

-- the float is that number
abbrev pub IsWhole : Float → ℕ → Type 0
IsWhole x n = HasValue x false n 1
