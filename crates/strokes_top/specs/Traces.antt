-- Traces that a run reads or writes.
use Rattle.std.specs.Prelude.{◌≡◌, ℕ, ◌+◌, ◌≤◌, true, List, Option, Some, None, Ok, length, IsSomeAnd}
use Rattle.machine_model.specs.State.{State}
use Rattle.script_text.specs.Script.{Contents}
use Rattle.trace_lines.specs.declared.line.TraceFault.{TraceFault}
use Rattle.trace_lines.specs.Replay.{replay, trace_fault, script_in}
use Rattle.trace_out.specs.Traces.{IsTraceOf}
use Rattle.strokes_top.specs.declared.choice.Choice.{Choice}
use Rattle.strokes_top.specs.declared.status.Status.{Status}
use Rattle.strokes_top.specs.Choice.{choice, is_trace}
use Rattle.strokes_top.specs.Output.{output}
use Rattle.strokes_top.specs.Reading.{WasRead, IsOfScript, limit_of}
use Rattle.strokes_top.specs.Written.{Writes}

-- Where a trace is to be written: one of the script that was generated or read was, with one slot more than there are workers.
abbrev pub IsTraced : Status → Option (List ℕ) → Option (List ℕ) → Option (List ℕ) → Option (List ℕ) → Choice → Type 0
IsTraced status left rest before after c =
    is_trace c.emit ≡ true → IsOfScript (λ s. (bytes : List ℕ) × IsTraceOf s (c.workers + 1) bytes × Writes status before after s bytes) c.demo left rest

-- the bytes are a trace without a fault, whose script has P
abbrev pub Replays : (Contents → Type 0) → List ℕ → Type 0
Replays P bytes = (last : State) × (replay bytes ≡ Ok last) × P (script_in last)

-- Where a trace is to be read: the source's bytes are one without a fault, and of its script what the words name was written.
abbrev pub IsReplayed : Status → Option (List ℕ) → Option (List ℕ) → Option (List ℕ) → Option (List ℕ) → Choice → Type 0
IsReplayed status left rest before after c =
    c.replay ≡ true → WasRead left rest (Replays (λ s. Writes status before after s (output c.emit s)))

-- the command takes the words, a trace is checked, and the first fault of the source's bytes, as a trace, is that line and cause
abbrev pub IsFaultyTrace : TraceFault → List (List ℕ) → Option (List ℕ) → Option (List ℕ) → Type 0
IsFaultyTrace f words before after = IsSomeAnd (choice words) (λ c. (c.replay ≡ true) × WasRead before after (λ bytes. trace_fault bytes ≡ Some f))

-- the command takes the words, a trace is to be read, and the source has just the bytes of one left, which is not too long and has no fault
abbrev pub IsGivenTrace : List (List ℕ) → Option (List ℕ) → Type 0
IsGivenTrace words left =
    IsSomeAnd (choice words) (λ c. (c.replay ≡ true) × IsSomeAnd left (λ bytes. (length bytes ≤ limit_of true) × (trace_fault bytes ≡ None)))
