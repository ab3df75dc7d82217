-- What a machine has made, and when nothing is left to do.
use Rattle.std.specs.Prelude.{◌≡◌, true, map, length, []}
use Rattle.std.specs.List.{list_all}
use Rattle.doc_model.specs.Picture.{Doc}
use Rattle.doc_model.specs.Strokes.{entries}
use Rattle.doc_model.specs.Meaning.{Story}
use Rattle.machine_model.specs.State.{Reach, State, is_free}

-- what the entries that have left the queue made
abbrev pub story : State → Story
story s = record { past = map (λ (e : Doc × Reach). e.0) s.past; document = s.base; future = map (λ (e : Doc × Reach). e.0) s.future; frames = s.frames; outcomes = s.outcomes }

-- every entry has its outcome, and nothing runs or waits
pub record IsSettled (s : State) : Type 0 where
  pub entries : length s.outcomes ≡ length (entries s.fed)
  pub slots : list_all is_free s.slots ≡ true
  pub updates : s.updates ≡ []
