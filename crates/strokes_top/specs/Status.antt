-- The line that tells a status, and what it says of the output.
use Rattle.std.specs.Prelude.{ℕ, Bool, true, false, List, [], ◌++◌, codes}
use Rattle.std.specs.Fmt.{decimal}
use Rattle.strokes_top.specs.declared.status.Status.{Status}
use Rattle.strokes_top.specs.declared.status.Status.TheVariants.{Done, DoneWithRefusals, Usage, Script, ReadFault, WriteFault, NoMemory, TooLong, Trace}
use Rattle.script_lines.specs.Values.{text}
use Rattle.trace_lines.specs.declared.line.TraceCause.{TraceCause}
use Rattle.trace_lines.specs.declared.line.TraceCause.TheVariants.{BadLine, NotEnabled, Unsettled}

-- what is wrong with a line of a trace
abbrev pub trace_cause : TraceCause → List ℕ
trace_cause BadLine = codes "bad line"
trace_cause NotEnabled = codes "not enabled"
trace_cause Unsettled = codes "unsettled"

-- the line on the error sink
abbrev pub told_by : Status → List ℕ
told_by Usage = codes "strokes: usage: strokes [--workers N] [--emit picture|log|sum|trace|live] [--demo NUMBER] [--replay] [--artists N]\n"
told_by (Script line cause) = codes "strokes: line " ++ decimal line ++ (codes ": " ++ text cause ++ codes "\n")
told_by ReadFault = codes "strokes: reading failed\n"
told_by WriteFault = codes "strokes: writing failed\n"
told_by NoMemory = codes "strokes: out of memory\n"
told_by TooLong = codes "strokes: script is longer than 1048576 bytes\n"
told_by (Trace line cause) = codes "strokes: trace line " ++ decimal line ++ (codes ": " ++ trace_cause cause ++ codes "\n")
told_by s = []

-- whether the whole output was written
abbrev pub is_done : Status → Bool
is_done Done = true
is_done DoneWithRefusals = true
is_done s = false

-- whether some of the output may have been written
abbrev pub may_write : Status → Bool
may_write WriteFault = true
may_write s = is_done s
