-- The groups that are still to come in a pass over the rows of a tree.
use Rattle.std.specs.Prelude.{ℕ, suc, List, [], ◌∷◌, ◌++◌}
use Rattle.doc_model.specs.Readers.{order}
use Rattle.doc_model.specs.Flat.{Row, read}

-- the groups that come from the rows on, each after those in it, where these groups stand round the first row, the outermost of them at the depth d first
abbrev pub due : {A : Type 0} → ℕ → List ℕ → List (Row A) → List ℕ
due d [] rows = order (read d rows)
due d (g ∷ gs) rows = due (suc d) gs rows ++ g ∷ order (read d rows)
