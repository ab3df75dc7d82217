-- What entries do, one after another, and which outcomes are refusals.
use Rattle.std.specs.Prelude.{Bool, ℕ, if◌then◌else◌, true, Option, false, Some, None, Result, Ok, Err, List, [], ◌∷◌, ◌++◌, map, take}
use Rattle.doc_model.specs.declared.job.Job.{Job}
use Rattle.doc_model.specs.declared.job.Kind.{Kind}
use Rattle.doc_model.specs.declared.canvas.Canvas.{Canvas}
use Rattle.doc_model.specs.declared.tree.TreeFault.{TreeFault}
use Rattle.doc_model.specs.declared.command.Outcome.{Outcome}
use Rattle.doc_model.specs.declared.command.Outcome.TheVariants as outcome
use Rattle.doc_model.specs.Layers.{Layer, plain}
use Rattle.doc_model.specs.Jobs.{apply_all}
use Rattle.doc_model.specs.Forest.{none, content, with_content}
use Rattle.doc_model.specs.Picture.{Doc, Frame, frame}
use Rattle.doc_model.specs.Changes.{changed, there}
use Rattle.doc_model.specs.Strokes.{Stroke, Fate, Cancelled, Entry, Strokes, Changes, Undoes, Redoes, Purges, Exports, conflict}
use Rattle.std.specs.List.{list_any}

-- past and future from the newest on
pub record Story : Type 0 where
  pub past : List Doc
  pub document : Doc
  pub future : List Doc
  pub frames : List Frame
  pub outcomes : List Outcome

-- before the first entry
abbrev pub start : Story
start = record { past = []; document = none; future = []; frames = []; outcomes = [] }

-- one more outcome
abbrev pub ends_with : Story → Outcome → Story
ends_with s o = record s { outcomes = s.outcomes ++ o ∷ [] }

-- a finished change
abbrev pub advanced : Story → Doc → Story
advanced s new = ends_with (record s { past = s.document ∷ s.past; document = new; future = [] }) outcome.Done

-- the jobs of a stroke laid on its layer
abbrev pub painted_doc : Stroke → Layer → Doc → Doc
painted_doc stroke layer doc = with_content stroke.layer (apply_all (map (λ (k : Kind × Job). k.1) stroke.jobs) layer) doc

-- a stroke whose layer is looked up
abbrev pub laid_stroke : Story → Stroke → Option Layer → Story
laid_stroke s stroke (Some layer) = advanced s (painted_doc stroke layer s.document)
laid_stroke s stroke None =
    ends_with s (if there stroke.layer s.document then outcome.NotPaint stroke.layer else outcome.NoLayer stroke.layer)

-- a stroke without a conflict
abbrev pub closed_stroke : Story → Stroke → Fate → Story
closed_stroke s stroke Cancelled = ends_with s outcome.Cancelled
closed_stroke s stroke _ = laid_stroke s stroke (content stroke.layer s.document)

-- a stroke, by its conflict
abbrev pub told_stroke : Story → Stroke → Option (ℕ × ℕ) → Story
told_stroke s stroke (Some pair) = ends_with s (outcome.Overlap pair.0 pair.1)
told_stroke s stroke None = closed_stroke s stroke stroke.fate

-- a change, by what it gives
abbrev pub told_change : Story → Result Doc TreeFault → Story
told_change s (Ok new) = advanced s new
told_change s (Err fault) = ends_with s (outcome.Tree fault)

-- an undo, by the past
abbrev pub undone : Story → List Doc → Story
undone s [] = ends_with s outcome.NothingToUndo
undone s (d ∷ past) = ends_with (record s { past = past; document = d; future = s.document ∷ s.future }) outcome.Done

-- a redo, by the future
abbrev pub redone : Story → List Doc → Story
redone s [] = ends_with s outcome.NothingToRedo
redone s (d ∷ future) = ends_with (record s { past = s.document ∷ s.past; document = d; future = future }) outcome.Done

-- one entry
abbrev pub told : Canvas → Story → Entry → Story
told canvas s (Strokes stroke) = told_stroke s stroke (conflict stroke.jobs)
told canvas s (Changes change) = told_change s (changed plain change s.document)
told canvas s Undoes = undone s s.past
told canvas s Redoes = redone s s.future
told canvas s (Purges n) = ends_with (record s { past = take n s.past }) outcome.Done
told canvas s Exports = ends_with (record s { frames = s.frames ++ frame s.document canvas ∷ [] }) outcome.Done

-- the entries one after another
abbrev pub told_all : Canvas → Story → List Entry → Story
told_all canvas s [] = s
told_all canvas s (e ∷ es) = told_all canvas (told canvas s e) es

-- what the entries make of an empty document
abbrev pub meaning : Canvas → List Entry → Story
meaning canvas es = told_all canvas start es

-- whether an entry was refused: all but a done one and a cancelled one
abbrev pub refused : Outcome → Bool
refused outcome.Done = false
refused outcome.Cancelled = false
refused o = true

-- whether some entry was refused
abbrev pub some_refused : List Outcome → Bool
some_refused outcomes = list_any refused outcomes
