-- Where the lines of a trace lead an outline.
use Rattle.std.specs.Prelude.{◌≡◌, ℕ, suc, ◌+◌, Option, Some, None, Result, Ok, Err, List, [], ◌∷◌, length}
use Rattle.script_forms.specs.Jobs.{Fields}
use Rattle.trace_lines.specs.declared.line.Line.{Line}
use Rattle.trace_lines.specs.declared.line.Line.TheVariants.{Feed, Outside, Step, Start, Publish, End, Walk, Put}
use Rattle.trace_lines.specs.declared.line.TraceCause.TheVariants.{NotEnabled}
use Rattle.trace_lines.specs.Forms.{line_of}
use Rattle.trace_lines.specs.Replay.{Told, fault, and_then, of_form}
use Rattle.trace_core.specs.declared.refusal.ReplayRefusal.{ReplayRefusal}
use Rattle.trace_core.specs.declared.refusal.ReplayRefusal.TheVariants.{Fault, NoMemory}
use Rattle.trace_core.specs.Outline.{Outline}
use Rattle.trace_core.specs.Moves.{fed, stepped, started, published, work_ended, walk_started, composed}

-- the outline after what a line says, where it may happen
abbrev pub happens : Outline → Line → Option Outline
happens o (Feed c) = fed o c
happens o Outside = None
happens o Step = stepped o
happens o (Start place) = started o place
happens o (Publish place key) = published o place key
happens o (End place) = work_ended o place
happens o (Walk place patch) = walk_started o place patch
happens o (Put place g key) = composed o place g key

abbrev pub enabled : ℕ → Option Outline → Told Outline
enabled n (Some o) = Ok o
enabled n None = fault n NotEnabled

-- the outline after the line of that number
abbrev pub line_follows : ℕ → Outline → Fields → Told Outline
line_follows n o fields = and_then (of_form n (line_of fields)) (λ line. enabled n (happens o line))

-- the outline after the lines, of which the first has that number
abbrev pub follow : ℕ → Outline → List Fields → Told Outline
follow n o [] = Ok o
follow n o (fields ∷ more) = and_then (line_follows n o fields) (λ p. follow (suc n) p more)

-- the refusal is the fault that is told
abbrev pub IsRefused : {A : Type 0} → ReplayRefusal → Told A → Type 0
IsRefused (Fault line cause) told = told ≡ fault line cause
IsRefused NoMemory told = Unit {0}

-- what is told leads to that outline, or is refused
abbrev pub LeadsTo : {A : Type 0} → Result A ReplayRefusal → Told Outline → Outline → Type 0
LeadsTo (Ok x) told new = told ≡ Ok new
LeadsTo (Err e) told new = IsRefused e told

-- the number of these lines and of the two before them
abbrev pub Counts : Result ℕ ReplayRefusal → List Fields → Type 0
Counts (Ok n) ls = n ≡ length ls + 2
Counts (Err e) ls = Unit {0}
