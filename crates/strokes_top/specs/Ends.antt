-- How a run ends.
use Rattle.std.specs.Prelude.{◌≡◌, ℕ, Bool, true, false, List, Option, Some, None, IsSomeAnd}
use Rattle.std.specs.Io.KnownBytes.{Keeps}
use Rattle.script_text.specs.Script.{Contents}
use Rattle.strokes_top.specs.declared.choice.Choice.{Choice}
use Rattle.strokes_top.specs.declared.transfer.ReadError.{ReadError}
use Rattle.strokes_top.specs.declared.transfer.ReadError.TheVariants as read
use Rattle.strokes_top.specs.declared.status.Status.{Status}
use Rattle.strokes_top.specs.declared.status.Status.TheVariants.{Usage, Script, ReadFault, NoMemory, TooLong, Trace}
use Rattle.strokes_top.specs.Choice.{choice}
use Rattle.strokes_top.specs.Reading.{IsFaulty}
use Rattle.strokes_top.specs.Traces.{IsFaultyTrace}
use Rattle.strokes_top.specs.Run.{IsWritten, IsAnswered}

-- whether the script or the trace is at fault
abbrev pub is_script : Status → Bool
is_script (Script line cause) = true
is_script (Trace line cause) = true
is_script s = false

-- the error of a read with which the run ended, if it did so
abbrev pub read_end : Status → Option ReadError
read_end ReadFault = Some read.Failed
read_end TooLong = Some read.TooLong
read_end s = None

-- what was written of a script; nothing where memory ran out
abbrev pub Paints : Status → Option (List ℕ) → Option (List ℕ) → Choice → Contents → Type 0
Paints NoMemory before after asked s = Keeps before after
Paints st before after asked s = IsWritten st before after asked s

-- what is known of the words, of what the source gave, and of what was written of it
abbrev pub Ends : Status → List (List ℕ) → Option (List ℕ) → Option (List ℕ) → Option (List ℕ) → Option (List ℕ) → Type 0
Ends Usage words left rest before after = choice words ≡ None
Ends (Script line cause) words left rest before after = IsFaulty (record { line = line; cause = cause }) words left rest
Ends (Trace line cause) words left rest before after = IsFaultyTrace (record { line = line; cause = cause }) words left rest
Ends ReadFault words left rest before after = IsSomeAnd (choice words) (λ c. c.demo ≡ None)
Ends TooLong words left rest before after = IsSomeAnd (choice words) (λ c. c.demo ≡ None)
Ends NoMemory words left rest before after = Unit {0}
Ends st words left rest before after = IsAnswered (IsWritten st before after) words left rest
