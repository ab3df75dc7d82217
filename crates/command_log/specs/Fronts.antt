-- Lists of commands, of which a front was taken.
use Rattle.std.specs.Prelude.{List}
use Rattle.doc_model.specs.declared.command.Command.{Command}
use Rattle.command_log.specs.declared.front.Listed.{Listed}
use Rattle.command_log.specs.declared.front.Listed.TheVariants.{Own, Shared}

-- all commands of a list, whoever has it
abbrev pub all : Listed → List Command
all (Own own) = own.items
all (Shared shared) = shared
