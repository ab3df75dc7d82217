-- Parts of what is told of a source.
use Rattle.std.specs.Prelude.{◌≡◌, ℕ, List, Some}
use Rattle.script_text.specs.declared.script.ScriptFault.{ScriptFault}
use Rattle.script_text.specs.Reading.{fault}
use Rattle.trace_lines.specs.declared.line.TraceFault.{TraceFault}
use Rattle.trace_lines.specs.Replay.{trace_fault}

-- the first fault of these bytes is that line and cause
abbrev pub HasFault : ScriptFault → List ℕ → Type 0
HasFault f bytes = fault bytes ≡ Some f

-- the first fault of these bytes, as a trace, is that line and cause
abbrev pub HasTraceFault : TraceFault → List ℕ → Type 0
HasTraceFault f bytes = trace_fault bytes ≡ Some f
