-- Which artist sends which command.
use Rattle.std.specs.Prelude.{◌≡◌, ℕ, ◌%◌, ◌==◌, List}
use Rattle.std.specs.List.{filter}
use Rattle.doc_model.specs.declared.command.Command.{Command}
use Rattle.doc_model.specs.declared.command.Command.TheVariants as command

-- the number of the stroke that the command is of, or else 0
abbrev pub stroke_no : Command → ℕ
stroke_no (command.Stroke n layer exclusive) = n
stroke_no (command.Add n kind job) = n
stroke_no (command.End n) = n
stroke_no (command.Cancel n) = n
stroke_no c = 0

-- of n artists, the one who sends the command: those of stroke S are of artist S mod n, all others of artist 0
abbrev pub artist_of : ℕ → Command → ℕ
artist_of n c = stroke_no c % n

-- the commands of artist k, in their order
abbrev pub commands_by : ℕ → ℕ → List Command → List Command
commands_by n k commands = filter (λ c. artist_of n c == k) commands

-- The second list has of each artist the same commands as the first, each once and in the same order, and no others.
abbrev pub IsShared : ℕ → List Command → List Command → Type 0
IsShared n commands history = (k : ℕ) → commands_by n k history ≡ commands_by n k commands
