-- Commands that may be fed, one after another.
use Rattle.std.specs.Prelude.{Bool, true, ◌&&◌, not, List, [], ◌∷◌}
use Rattle.doc_model.specs.declared.command.Command.{Command}
use Rattle.doc_model.specs.Strokes.{Entry, Strokes, fed, is_open}
use Rattle.doc_model.specs.Lawful.{may_follow}

-- whether the entry isn't an open stroke
abbrev pub is_closed_entry : Entry → Bool
is_closed_entry (Strokes s) = not (is_open s.fate)
is_closed_entry e = true

-- whether each command may follow those before it
abbrev pub lawful_after : List Entry → List Command → Bool
lawful_after es [] = true
lawful_after es (c ∷ cs) = may_follow es c && lawful_after (fed es c) cs

-- whether these commands may be fed, one after another
abbrev pub lawful : List Command → Bool
lawful commands = lawful_after [] commands
