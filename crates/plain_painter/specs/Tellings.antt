-- What is told of a document that is told entry by entry.
use Rattle.std.specs.Prelude.{◌≡◌, ℕ, Bool, true, List, [], ◌∷◌, ◌++◌, map, take, length}
use Rattle.std.specs.List.{list_all}
use Rattle.doc_model.specs.declared.job.Job.{Job}
use Rattle.doc_model.specs.declared.job.Kind.{Kind}
use Rattle.doc_model.specs.declared.command.Command.{Command}
use Rattle.doc_model.specs.declared.command.Outcome.{Outcome}
use Rattle.doc_model.specs.Strokes as doc
use Rattle.doc_model.specs.Strokes.{entries}
use Rattle.doc_model.specs.Lawful.{within_limits}
use Rattle.doc_model.specs.Feeding.{is_closed_entry}
use Rattle.doc_model.specs.Meaning.{Story, told, meaning}
use Rattle.entry_queue.specs.declared.entry.Entry.{Entry}
use Rattle.entry_queue.specs.declared.entry.Entry.TheVariants.{Waiting, Whole, Other}
use Rattle.entry_queue.specs.Pushed.{Pending, StandsFor, queued}
use Rattle.script_text.specs.Script.{Contents}
use Rattle.std.specs.Global.{Vec}
use Rattle.plain_painter.specs.declared.telling.Telling.{Telling}

-- the story that the documents, the frames and these outcomes tell
abbrev pub story_of : Telling → List Outcome → Story
story_of s outcomes = record {
  past = s.past.items;
  document = s.document;
  future = s.future.items;
  frames = map (λ (f : Vec (List ℕ)). f.items) s.frames.items;
  outcomes = outcomes;
}

-- an entry ended with that outcome, and the story went on as told
pub record GoesOn (next : Story → Story) (old new : Telling) (o : Outcome) : Type 0 where
  pub canvas : new.canvas ≡ old.canvas
  pub story : (outcomes : List Outcome) → story_of new (outcomes ++ o ∷ []) ≡ next (story_of old outcomes)

-- it went on as the entry means
abbrev pub Ends : doc.Entry → Telling → Telling → Outcome → Type 0
Ends e old new o = GoesOn (λ s. told old.canvas s e) old new o

-- whether the jobs of an entry are within the limits
abbrev pub fits : Entry → Bool
fits (Waiting s) = list_all (λ (j : Kind × Job). within_limits j.1) s.jobs
fits (Whole c) = list_all (λ (j : Kind × Job). within_limits j.1) c.stroke.jobs
fits (Other c) = true

-- the entry of the queue is a closed one of a script, with jobs within the limits
pub record IsReady (x : Entry) : Type 0 where
  pub entry : doc.Entry
  pub is : queued entry ≡ x
  pub closed : is_closed_entry entry ≡ true
  pub fit : fits x ≡ true

-- the entries with an outcome were told one after another from an empty document, and the others wait in the queue
pub record HasCome (commands : List Command) (s : Telling) (q : Pending) : Type 0 where
  pub queue : StandsFor commands q
  pub story : story_of s q.outcomes ≡ meaning s.canvas (take (length q.outcomes) (entries commands))

-- the frames and the outcomes are those that the script means
pub record Tells (script : Contents) (frames : List (Vec (List ℕ))) (outcomes : List Outcome) : Type 0 where
  pub frames_are : map (λ (f : Vec (List ℕ)). f.items) frames ≡ (meaning script.canvas (entries script.commands)).frames
  pub outcomes_are : outcomes ≡ (meaning script.canvas (entries script.commands)).outcomes
