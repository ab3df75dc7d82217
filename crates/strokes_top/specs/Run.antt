-- What a run reads and writes, whatever its words ask for.
use Rattle.std.specs.Prelude.{◌≡◌, ℕ, ◌+◌, Bool, true, false, List, [], ◌++◌, Option, Some, None, IsSomeAnd}
use Rattle.script_text.specs.Script.{Contents}
use Rattle.script_text.specs.Text.{text}
use Rattle.demo_gen.specs.Demo.{demo}
use Rattle.trace_out.specs.Traces.{IsTraceOf}
use Rattle.strokes_top.specs.declared.choice.Emit.{Emit}
use Rattle.strokes_top.specs.declared.choice.Emit.TheVariants.{Trace}
use Rattle.strokes_top.specs.declared.choice.Choice.{Choice}
use Rattle.strokes_top.specs.declared.status.Status.{Status}
use Rattle.strokes_top.specs.Choice.{choice}
use Rattle.strokes_top.specs.Output.{output}
use Rattle.strokes_top.specs.Reading.{WasRead, Spells}
use Rattle.strokes_top.specs.Written.{Writes}
use Rattle.strokes_top.specs.Together.{IsDrawnBy}
use Rattle.strokes_top.specs.Traces.{Replays}

-- what is painted of a script: what so many artists draw of it, or without artists the script itself
abbrev pub IsDrawn : Option ℕ → Contents → Contents → Type 0
IsDrawn None s drawn = drawn ≡ s
IsDrawn (Some n) s drawn = IsDrawnBy n s drawn

-- what is written before the output: the text of what artists draw
abbrev pub preface : Option ℕ → Contents → List ℕ
preface None drawn = []
preface (Some n) drawn = text drawn

-- the preface, and the output behind it
abbrev pub led : Option ℕ → Emit → Contents → List ℕ
led artists emit drawn = preface artists drawn ++ output emit drawn

-- the bytes are all that is written of what was drawn: a trace of it, with one slot more than there are workers, or its preface and its output
abbrev pub IsWhole : Emit → Choice → Contents → List ℕ → Type 0
IsWhole Trace asked drawn bytes = IsTraceOf drawn (asked.workers + 1) bytes
IsWhole emit asked drawn bytes = bytes ≡ led asked.artists emit drawn

-- what was written of what was drawn of a script, by how the run ended
pub record IsWritten (st : Status) (before after : Option (List ℕ)) (asked : Choice) (s : Contents) : Type 0 where
  pub drawn : Contents
  pub is_drawn : IsDrawn asked.artists s drawn
  pub bytes : List ℕ
  pub whole : IsWhole asked.emit asked drawn bytes
  pub writes : Writes st before after drawn bytes

-- the bytes are a script without a fault, or where a trace is asked for one without a fault, and the script that they give has P
abbrev pub Gives : Bool → (Contents → Type 0) → List ℕ → Type 0
Gives false P bytes = Spells P bytes
Gives true P bytes = Replays P bytes

-- the generated script of the number has P, or, where there is no number, that which the source's bytes give, as a script's text or as a trace
abbrev pub IsOf : (Contents → Type 0) → Option ℕ → Bool → Option (List ℕ) → Option (List ℕ) → Type 0
IsOf P (Some number) replays before after = P (demo number)
IsOf P None replays before after = WasRead before after (Gives replays P)

-- the command takes the words, and for what they ask for P holds of the script
abbrev pub IsAnswered : (Choice → Contents → Type 0) → List (List ℕ) → Option (List ℕ) → Option (List ℕ) → Type 0
IsAnswered P words before after = IsSomeAnd (choice words) (λ c. IsOf (P c) c.demo c.replay before after)
