-- What a run has written where artists draw.
use Rattle.std.specs.Prelude.{◌≡◌, ℕ, List, ◌++◌, Option, Some}
use Rattle.script_text.specs.Script.{Contents}
use Rattle.script_text.specs.Text.{text}
use Rattle.script_text.specs.Reading.{script}
use Rattle.artists.specs.Shares.{IsShared}
use Rattle.strokes_top.specs.declared.choice.Choice.{Choice}
use Rattle.strokes_top.specs.declared.status.Status.{Status}
use Rattle.strokes_top.specs.Output.{output}
use Rattle.strokes_top.specs.Reading.{IsOfScript}
use Rattle.strokes_top.specs.Written.{Writes}

-- what n artists draw of a script: a script of its canvas that has of each artist the same commands, each once and
-- in the same order, and no others
pub record IsDrawnBy (n : ℕ) (s drawn : Contents) : Type 0 where
  pub canvas : drawn.canvas ≡ s.canvas
  pub commands : IsShared n s.commands drawn.commands
  pub reads : script (text drawn) ≡ Some drawn

-- Where n artists draw: of the script that was generated or read they drew one, and its text was written, and then of it what the words name.
abbrev pub IsPaintedTogether : Status → Option (List ℕ) → Option (List ℕ) → Option (List ℕ) → Option (List ℕ) → Choice → Type 0
IsPaintedTogether status left rest before after c =
    (n : ℕ) → c.artists ≡ Some n → IsOfScript (λ s. (drawn : Contents) × IsDrawnBy n s drawn × Writes status before after drawn (text drawn ++ output c.emit drawn)) c.demo left rest
