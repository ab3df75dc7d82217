-- Words with numbers behind them.
use Rattle.std.specs.Prelude.{ℕ, Option, Some, None, List, [], ◌∷◌, ◌++◌, codes}
use Rattle.std.specs.List.{concat}
use Rattle.std.specs.Fmt.{decimal}
use Rattle.doc_model.specs.declared.command.Command.{Command}
use Rattle.doc_model.specs.declared.command.Command.TheVariants as command
use Rattle.log_out.specs.declared.phrase.Phrase.{Phrase}
use Rattle.log_out.specs.Log.{change_word}

-- a number, if there is one
abbrev pub digits : Option ℕ → List ℕ
digits None = []
digits (Some n) = decimal n

-- a blank before a number, if there is one
abbrev pub blank : Option ℕ → List ℕ
blank None = []
blank (Some n) = codes " "

-- the words, the first number, and the second behind a blank
abbrev pub phrase_text : Phrase → List ℕ
phrase_text p = concat (p.words.now ∷ digits p.first ∷ blank p.second ∷ digits p.second ∷ [])

-- the name of the entry that a command makes
abbrev pub name_of : Command → Option (List ℕ)
name_of (command.Change change) = Some (change_word change)
name_of (command.Stroke n layer exclusive) = Some (codes "stroke " ++ decimal n)
name_of (command.Add n kind job) = None
name_of (command.End n) = None
name_of (command.Cancel n) = None
name_of command.Undo = Some (codes "undo")
name_of command.Redo = Some (codes "redo")
name_of (command.Purge keep) = Some (codes "purge")
name_of command.Export = Some (codes "export")
