-- Fields one by one: a field at the front of a text, and the byte that ends it.
use Rattle.std.specs.Prelude.{ℕ, Bool, ◌≡◌, true, List, length, not, ◌==◌, ◌∷◌, ◌++◌, Result, ◌&&◌, Ok, [], map, Option, None, Some}
use Rattle.script_lines.specs.declared.cause.Cause.{Cause}
use Rattle.script_lines.specs.Lines.{is_blank, lines}
use Rattle.std.specs.List.{list_all}
use Rattle.std.specs.Borrow.{Bor}

-- what a list of references points to
abbrev pub pointed : List (Bor (List ℕ)) → List (List ℕ)
pointed refs = map (λ r. r.now) refs

-- whether a piece between blanks is a field
abbrev pub is_some_field : List ℕ → Bool
is_some_field bytes = not (length bytes == 0)

-- neither a blank nor a line feed
abbrev pub is_plain : ℕ → Bool
is_plain b = not (is_blank b) && not (b == 10)

-- whether the bytes can stand as a field
abbrev pub is_field : List ℕ → Bool
is_field bytes = is_some_field bytes && list_all is_plain bytes

-- the lines behind another's line feed, where it has one
abbrev pub lines_behind : Option (Bor (List ℕ)) → List (List (List ℕ))
lines_behind None = []
lines_behind (Some behind) = lines behind.now

-- a field before those of the first line
abbrev pub with_field : List ℕ → List (List (List ℕ)) → List (List (List ℕ))
with_field field [] = (field ∷ []) ∷ []
with_field field (line ∷ others) = (field ∷ line) ∷ others

-- the text begins with a field that says the value, the mark ends it, and the rest stands behind
pub record Begins {A : Type 0} (says : List ℕ → Result A Cause) (mark : ℕ) (text : List ℕ) (value : A) (behind : List ℕ) : Type 0 where
  pub field : List ℕ
  pub is_field : is_field field ≡ true
  pub told : says field ≡ Ok value
  pub front : text ≡ field ++ mark ∷ behind
