-- Histories of commands, each signed by an artist's number.
use Rattle.std.specs.Prelude.{ℕ, Bool, List, [], ◌∷◌, map}
use Rattle.atomic_table.specs.Seated.{TableId}
use Rattle.doc_model.specs.declared.canvas.Canvas.{Canvas}
use Rattle.doc_model.specs.declared.command.Command.{Command}
use Rattle.doc_model.specs.Lawful.{may_follow}
use Rattle.doc_model.specs.Strokes.{entries}
use Rattle.studio.specs.declared.signed.Signed.{Signed}

-- A studio: how many artists it has, and its canvas.
pub record Room : Type 0 where
  pub id : TableId
  pub artists : ℕ
  pub canvas : Canvas

abbrev pub signed : ℕ → Command → Signed
signed k c = record { artist = k; command = c }

abbrev pub signer : Signed → ℕ
signer s = s.artist

-- commands, each with the number at its place
abbrev pub signed_all : List ℕ → List Command → List Signed
signed_all (k ∷ ks) (c ∷ cs) = signed k c ∷ signed_all ks cs
signed_all ks cs = []

abbrev pub commands_of : List Signed → List Command
commands_of history = map (λ (s : Signed). s.command) history

-- whether the command may follow those of the history
abbrev pub may_be_next : List Signed → Signed → Bool
may_be_next history s = may_follow (entries (commands_of history)) s.command
