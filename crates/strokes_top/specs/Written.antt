-- What a run has written, by how it ended, where a script is painted as it is.
use Rattle.std.specs.Prelude.{◌≡◌, ℕ, true, false, List, Option}
use Rattle.std.specs.Io.KnownBytes.{Appends}
use Rattle.io_edge.specs.Told.{AppendsPrefix}
use Rattle.doc_model.specs.Meaning.{some_refused}
use Rattle.script_text.specs.Script.{Contents, meaning_of}
use Rattle.strokes_top.specs.declared.choice.Choice.{Choice}
use Rattle.strokes_top.specs.declared.status.Status.{Status}
use Rattle.strokes_top.specs.declared.status.Status.TheVariants.{Done, DoneWithRefusals, WriteFault}
use Rattle.strokes_top.specs.Choice.{is_plain}
use Rattle.strokes_top.specs.Output.{output}
use Rattle.strokes_top.specs.Reading.{IsOfScript}

-- the bytes are all that was written, and whether an entry of the script was refused; or where writing failed their front
abbrev pub Writes : Status → Option (List ℕ) → Option (List ℕ) → Contents → List ℕ → Type 0
Writes Done before after s bytes = Appends before after bytes × (some_refused (meaning_of s).outcomes ≡ false)
Writes DoneWithRefusals before after s bytes = Appends before after bytes × (some_refused (meaning_of s).outcomes ≡ true)
Writes WriteFault before after s bytes = AppendsPrefix before after bytes
Writes status before after s bytes = ⊥

-- Without artists and traces: of the script that was generated or read, what the words name was written.
abbrev pub IsPainted : Status → Option (List ℕ) → Option (List ℕ) → Option (List ℕ) → Option (List ℕ) → Choice → Type 0
IsPainted status left rest before after c = is_plain c ≡ true → IsOfScript (λ s. Writes status before after s (output c.emit s)) c.demo left rest
