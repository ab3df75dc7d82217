-- The commands taken so far, and how one more is refused, as contracts see them.
use Rattle.std.specs.Prelude.{◌≡◌, List, refl, Option, Some, None, Result, Ok, Err}
use Rattle.std.specs.Coded.{Coded, code_by, coded×, coded_list, coded_option}
use Rattle.doc_model.specs.declared.command.Command.{Command}
use Rattle.doc_model.specs.contracts.command.Command as command_row
use Rattle.command_log.specs.declared.refusal.Misfit.{Misfit}
use Rattle.command_log.specs.declared.refusal.Refusal.{Refusal}
use Rattle.command_log.specs.declared.refusal.Refusal.TheVariants as refusal

-- the commands in order, and the one for which there is room, if there is one
pub record Log : Type 0 where
  pub items : List Command
  pub room : Option Command

abbrev pub log : List Command → Option Command → Log
log items room = record { items = items; room = room }

-- the code by which contracts tell lists of commands apart
abbrev pub log_code : Coded Log
log_code = code_by (List Command × Option Command) (coded× (coded_list (command_row.the_row).coded) (coded_option (command_row.the_row).coded)) (λ l. (l.items, l.room)) (λ t. log t.0 t.1) (λ _. refl)

-- a command is refused for that misfit, or for want of memory
abbrev pub Refuses : {A : Type 0} → Result A Refusal → Option Misfit → Type 0
Refuses (Ok x) misfit = misfit ≡ None
Refuses (Err (refusal.Misfit m)) misfit = misfit ≡ Some m
Refuses (Err refusal.NoMemory) misfit = Unit {0}
