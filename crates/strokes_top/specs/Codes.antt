-- The exit code of a status.
use Rattle.std.specs.Prelude.{ℕ}
use Rattle.strokes_top.specs.declared.status.Status.{Status}
use Rattle.strokes_top.specs.declared.status.Status.TheVariants.{Done, DoneWithRefusals, Usage, Script, ReadFault, WriteFault, NoMemory, TooLong, Trace}

-- the exit code
abbrev pub code_of : Status → ℕ
code_of Done = 0
code_of DoneWithRefusals = 1
code_of Usage = 2
code_of (Script line cause) = 3
code_of ReadFault = 4
code_of WriteFault = 5
code_of NoMemory = 6
code_of TooLong = 7
code_of (Trace line cause) = 8
