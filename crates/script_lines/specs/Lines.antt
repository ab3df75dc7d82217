-- The lines of a script and their fields.
use Rattle.std.specs.Prelude.{ℕ, Bool, false, not, ◌==◌, ◌||◌, List, ◌∷◌, length, map, filter}
use Rattle.std.specs.List.{slice_split}

-- space, tab, carriage return
abbrev pub is_blank : ℕ → Bool
is_blank b = (b == 32) || (b == 9) || (b == 13)

-- the longest rows of bytes without blanks
abbrev pub fields : List ℕ → List (List ℕ)
fields line = filter (λ piece. not (length piece == 0)) (slice_split is_blank line)

-- whether the line is a command: neither blank nor a comment
abbrev pub is_command : List (List ℕ) → Bool
is_command ((b ∷ bytes) ∷ others) = not (b == 35)
is_command fields = false

-- the lines between line feeds, each as its fields
abbrev pub lines : List ℕ → List (List (List ℕ))
lines bytes = map fields (slice_split (λ b. b == 10) bytes)
