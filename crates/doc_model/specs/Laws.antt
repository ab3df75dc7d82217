-- Laws of jobs, and of undo and redo.
use Rattle.std.specs.Prelude.{◌≡◌, ◌≢◌, ◌≤◌, ◌<◌, ◌*◌, ℕ, Bool, true, false, Ok, List, [], ◌∷◌, ◌++◌, length}
use Rattle.std.specs.List.{AllByRecursion}
use Rattle.geom_core.specs.Areas.{Area, Point}
use Rattle.geom_core.specs.Rects.{any_holds}
use Rattle.geom_core.specs.Grid.{Key}
use Rattle.doc_model.specs.declared.canvas.Canvas.{Canvas}
use Rattle.doc_model.specs.declared.job.Job.{Job}
use Rattle.doc_model.specs.declared.job.Kind.{Kind}
use Rattle.doc_model.specs.declared.tree.Change.{Change}
use Rattle.doc_model.specs.Trails.{distance, how_many_on}
use Rattle.doc_model.specs.Layers.{Layer, at, plain}
use Rattle.doc_model.specs.Jobs.{reads, writes, apply}
use Rattle.doc_model.specs.Shots.{published}
use Rattle.doc_model.specs.Forest.{Forest, count, height}
use Rattle.doc_model.specs.Ids.{IsTree}
use Rattle.doc_model.specs.Picture.{Doc}
use Rattle.doc_model.specs.Changes.{changed}
use Rattle.doc_model.specs.Strokes.{Entry, Strokes, Changes, Undoes, Redoes, disturb, clash}
use Rattle.doc_model.specs.declared.command.Outcome.{Outcome}
use Rattle.doc_model.specs.declared.command.Outcome.TheVariants.{Done}
use Rattle.doc_model.specs.Meaning.{Story, told, meaning}

-- the layers have one default pixel, and the same pixels on these rectangles
pub record SameOn (rects : List Area) (a b : Layer) : Type 0 where
  pub default_pixel : a.default_pixel ≡ b.default_pixel
  pub pixels : (p : Point) → any_holds rects p ≡ true → at a p ≡ at b p

-- what every job keeps to; nothing else of jobs counts where they run side by side
pub record LawsOfJobs : Type 0 where
  -- the default pixel stays, and so does each pixel outside the job's writes
  pub default_pixel : (job : Job) (layer : Layer) → (apply job layer).default_pixel ≡ layer.default_pixel
  pub outside : (job : Job) (layer : Layer) (p : Point) → any_holds (writes job) p ≡ false → at (apply job layer) p ≡ at layer p
  -- a pixel inside depends on the pixels on the job's reads and on the default pixel alone
  pub inside : (job : Job) (a b : Layer) (p : Point) → SameOn (reads job) a b → any_holds (writes job) p ≡ true → at (apply job a) p ≡ at (apply job b) p
  -- what it writes it reads
  pub within : (job : Job) (p : Point) → any_holds (writes job) p ≡ true → any_holds (reads job) p ≡ true

-- a segment has just the dabs that stand less than its length from its first point; they are numbered from 0
abbrev pub DabsStandBefore : Type 0
DabsStandBefore = (gap k : ℕ) (p q : Point) → 1 ≤ gap → (k < how_many_on gap p q → k * gap < distance p q) × (k * gap < distance p q → k < how_many_on gap p q)

-- no point lies in rectangles of both
abbrev pub Apart : List Area → List Area → Type 0
Apart one other = (p : Point) → any_holds one p ≡ true → any_holds other p ≡ false

-- jobs of which neither writes what the other reads commute
abbrev pub JobsCommute : Type 0
JobsCommute = (a b : Job) (layer : Layer) → Apart (writes a) (reads b) → Apart (writes b) (reads a) → apply a (apply b layer) ≡ apply b (apply a layer)

-- so do their tiles, also where both are published into one tile
abbrev pub TilesCommute : Type 0
TilesCommute = (a b : Job) (shot_a shot_b : Layer) (k l : Key) (layer : Layer) → Apart (writes a) (reads b) → Apart (writes b) (reads a)
    → published a shot_a k (published b shot_b l layer) ≡ published b shot_b l (published a shot_a k layer)

-- the two have the same past, document and future
pub record SameHistory (s t : Story) : Type 0 where
  pub past : s.past ≡ t.past
  pub document : s.document ≡ t.document
  pub future : s.future ≡ t.future

-- to undo and then redo changes nothing
abbrev pub UndoThenRedo : Type 0
UndoThenRedo = (canvas : Canvas) (s : Story) → s.past ≢ [] → SameHistory (told canvas (told canvas s Undoes) Redoes) s

-- to redo and then undo changes nothing
abbrev pub RedoThenUndo : Type 0
RedoThenUndo = (canvas : Canvas) (s : Story) → s.future ≢ [] → SameHistory (told canvas (told canvas s Redoes) Undoes) s

-- whether an entry is a stroke or a change of the tree
abbrev pub is_change : Entry → Bool
is_change (Strokes stroke) = true
is_change (Changes change) = true
is_change e = false

-- an undo right after a stroke or a change that was done gives back the document from before it
abbrev pub UndoGivesBack : Type 0
UndoGivesBack = (canvas : Canvas) (s : Story) (e : Entry) → is_change e ≡ true → (told canvas s e).outcomes ≡ s.outcomes ++ Done ∷ []
    → ((told canvas (told canvas s e) Undoes).document ≡ s.document) × ((told canvas (told canvas s e) Undoes).past ≡ s.past)

-- an entry that is cancelled or refused, whatever it is, leaves nothing but its outcome
abbrev pub RefusedLeavesNothing : Type 0
RefusedLeavesNothing = (canvas : Canvas) (s : Story) (e : Entry) (o : Outcome) → (told canvas s e).outcomes ≡ s.outcomes ++ o ∷ [] → o ≢ Done → told canvas s e ≡ record s { outcomes = s.outcomes ++ o ∷ [] }

-- a meaning has one outcome an entry
abbrev pub OneOutcomeAnEntry : Type 0
OneOutcomeAnEntry = (canvas : Canvas) (es : List Entry) → length (meaning canvas es).outcomes ≡ length es

-- whether jobs disturb each other, or clash in a run, doesn't depend on their order
pub record ConflictsBothWays : Type 0 where
  pub jobs : (a b : Job) → disturb a b ≡ disturb b a
  pub kinds : (a b : Kind × Job) → clash a b ≡ clash b a

-- a document of the limits: each id once and never that of the root, 256 nodes beside it, and 16 levels
pub record IsDocument {A : Type 0} (f : Forest A) : Type 0 where
  pub tree : IsTree f
  pub few : count f ≤ 256
  pub low : height f ≤ 16

-- each document of a story
pub record EachDoc (P : Doc → Type 0) (s : Story) : Type 0 where
  pub past : AllByRecursion P s.past
  pub document : P s.document
  pub future : AllByRecursion P s.future

-- a change that isn't refused keeps a document within the limits
abbrev pub ChangesKeepLimits : Type 0
ChangesKeepLimits = (change : Change) (doc new : Doc) → changed plain change doc ≡ Ok new → IsDocument doc → IsDocument new

-- every document that entries reach is within the limits
abbrev pub MeaningKeepsLimits : Type 0
MeaningKeepsLimits = (canvas : Canvas) (es : List Entry) → EachDoc (IsDocument {A = Layer}) (meaning canvas es)
