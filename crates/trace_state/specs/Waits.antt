-- The entry at the head of a queue, where it is no stroke.
use Rattle.std.specs.Prelude.{Bool, true, false, Option, Some, None, List, [], ◌∷◌}
use Rattle.doc_model.specs.declared.command.Command.{Command}
use Rattle.entry_queue.specs.declared.entry.Entry.{Entry}
use Rattle.entry_queue.specs.declared.entry.Entry.TheVariants.{Waiting, Whole, Other}

-- the entry at the head, where it is no stroke
abbrev pub other_in : List Entry → Option Command
other_in [] = None
other_in (Waiting s ∷ es) = None
other_in (Whole c ∷ es) = None
other_in (Other c ∷ es) = Some c

-- whether no entry is left
abbrev pub is_done : List Entry → Bool
is_done [] = true
is_done (e ∷ es) = false
