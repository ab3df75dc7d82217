-- What the bytes of a trace say: the state that its lines lead to, or the first that is refused.
use Rattle.std.specs.Prelude.{ℕ, suc, ◌==◌, if◌then◌else◌, Option, Some, None, List, [], ◌∷◌, length, Result, Ok, Err}
use Rattle.script_lines.specs.declared.cause.Cause.{Cause}
use Rattle.script_lines.specs.declared.cause.Cause.TheVariants.{FieldCount}
use Rattle.script_lines.specs.Lines.{lines}
use Rattle.script_forms.specs.Jobs.{Fields}
use Rattle.script_text.specs.Script.{Contents, contents}
use Rattle.machine_model.specs.State.{State, new_state}
use Rattle.machine_model.specs.Event as event
use Rattle.machine_model.specs.Next.{next}
use Rattle.machine_model.specs.Replays.{stepped, work_ended, is_settled}
use Rattle.trace_lines.specs.declared.line.Line.{Line}
use Rattle.trace_lines.specs.declared.line.Line.TheVariants.{Feed, Outside, Step, Start, Publish, End, Walk, Put}
use Rattle.trace_lines.specs.declared.line.TraceCause.{TraceCause}
use Rattle.trace_lines.specs.declared.line.TraceCause.TheVariants.{BadLine, NotEnabled, Unsettled}
use Rattle.trace_lines.specs.declared.line.TraceFault.{TraceFault}
use Rattle.trace_lines.specs.Forms.{line_of, slots, canvas_line}

-- the state after what a line says, where it may happen
abbrev pub happens : State → Line → Option State
happens s (Feed c) = next s (event.Feed c)
happens s Outside = None
happens s Step = stepped s
happens s (Start place) = next s (event.Start place)
happens s (Publish place key) = next s (event.Publish place key)
happens s (End place) = work_ended s place
happens s (Walk place patch) = next s (event.WalkStart place patch)
happens s (Put place g key) = next s (event.WalkPublish place g key)

-- the answer to a trace: what it leads to, or its first fault
abbrev pub Told : Type 0 → Type 0
Told A = Result A TraceFault

abbrev pub fault : {A : Type 0} → ℕ → TraceCause → Told A
fault n cause = Err (record { line = n; cause = cause })

-- a step after another: the first that is refused gives the fault
abbrev pub and_then : {A B : Type 0} → Told A → (A → Told B) → Told B
and_then (Ok x) f = f x
and_then (Err e) f = Err e

-- what the line of that number says, where it is of its form
abbrev pub of_form : {A : Type 0} → ℕ → Result A Cause → Told A
of_form n (Ok x) = Ok x
of_form n (Err c) = fault n BadLine

-- what the line of that number leads to, where it may happen
abbrev pub enabled : ℕ → Option State → Told State
enabled n (Some s) = Ok s
enabled n None = fault n NotEnabled

-- the state after the line of that number
abbrev pub line_follows : ℕ → State → Fields → Told State
line_follows n s fields = and_then (of_form n (line_of fields)) (λ line. enabled n (happens s line))

-- the state after the lines, of which the first has that number
abbrev pub follow : ℕ → State → List Fields → Told State
follow n s [] = Ok s
follow n s (fields ∷ more) = and_then (line_follows n s fields) (λ t. follow (suc n) t more)

-- the state, where nothing is left to do after that many lines
abbrev pub settled : ℕ → State → Told State
settled n s = if is_settled s then Ok s else fault n Unsettled

-- the state after the lines behind the first two
abbrev pub replayed_behind : Result ℕ Cause → Fields → List Fields → Told State
replayed_behind number second more =
    and_then (of_form 1 number) (λ n.
    and_then (of_form 2 (canvas_line second)) (λ c.
    and_then (follow 3 (new_state c n) more) (λ s.
    settled (suc (suc (length more))) s)))

-- the last state of a trace of these lines, or its first fault
unfoldable pub replayed : List Fields → Told State
replayed [] = fault 1 BadLine
replayed (one ∷ []) = and_then (of_form 1 (slots one)) (λ n. fault 2 BadLine)
replayed (one ∷ two ∷ more) = replayed_behind (slots one) two more

-- the text without its last line feed
abbrev pub without_feed : List ℕ → List ℕ
without_feed [] = []
without_feed (b ∷ []) = if b == 10 then [] else b ∷ []
without_feed (b ∷ c ∷ bytes) = b ∷ without_feed (c ∷ bytes)

-- the lines, each as its fields; a line feed stands behind each, which the last may lack
abbrev pub lines_in : List ℕ → List Fields
lines_in [] = []
lines_in (b ∷ bytes) = lines (without_feed (b ∷ bytes))

-- the last state of a trace, or its first fault
abbrev pub replay : List ℕ → Told State
replay bytes = replayed (lines_in bytes)

-- the first fault of a trace, or None
abbrev pub trace_fault : List ℕ → Option TraceFault
trace_fault bytes = fault_in (replay bytes)
  where
    fault_in : Told State → Option TraceFault
    fault_in (Ok s) = None
    fault_in (Err f) = Some f

-- the canvas and the commands that were fed
abbrev pub script_in : State → Contents
script_in s = contents s.canvas s.fed

-- the number of slots that the first of the lines says
abbrev pub slots_by : List Fields → Result ℕ Cause
slots_by [] = Err FieldCount
slots_by (one ∷ more) = slots one

-- the number of slots that a trace says
abbrev pub slots_in : List ℕ → Result ℕ Cause
slots_in bytes = slots_by (lines_in bytes)
