-- The commands that add a stroke's jobs.
use Rattle.std.specs.Prelude.{ℕ}
use Rattle.doc_model.specs.declared.job.Kind.TheVariants.{Con, Seq}
use Rattle.doc_model.specs.declared.command.Command.{Command}
use Rattle.doc_model.specs.declared.command.Command.TheVariants as command
use Rattle.demo_gen.specs.Demo.{dab_job, move_job}

-- a dab is added to the stroke k
abbrev pub dab : ℕ → ℕ → ℕ → Command
dab k i s = command.Add k Con (dab_job i s)

-- a move is added to it
abbrev pub move : ℕ → ℕ → Command
move k s = command.Add k Seq (move_job s)
