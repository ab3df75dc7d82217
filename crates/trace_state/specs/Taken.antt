-- What was fed, and what of it waits.
use Rattle.std.specs.Prelude.{◌≡◌, true, List}
use Rattle.std.specs.List.{list_all}
use Rattle.doc_model.specs.declared.command.Command.{Command}
use Rattle.doc_model.specs.Feeding.{lawful}
use Rattle.script_forms.specs.Ranges.{in_range}
use Rattle.entry_queue.specs.declared.entry.Entry.{Entry}
use Rattle.entry_queue.specs.Pushed.{Pending, StandsFor}

-- the commands that were fed, and the entries that are left of those that they made
pub record Taken : Type 0 where
  pub fed : List Command
  pub left : List Entry

-- each command may follow those before it and has its numbers in their ranges, and the queue has what is left of their entries
pub record IsTaken (fed : List Command) (queue : Pending) : Type 0 where
  pub lawful : lawful fed ≡ true
  pub ranges : list_all in_range fed ≡ true
  pub stands : StandsFor fed queue
