-- Work that is given back to a desk.
use Rattle.std.specs.Prelude.{◌≡◌, ◌⊎◌, ◌≤◌, ◌<◌, ℕ, false, Option, Some, None, Result, Ok, Err, List, [], ◌∷◌, length, drop, take, slice_get}
use Rattle.geom_core.specs.Areas.{Area, Point, holds}
use Rattle.geom_core.specs.Grid.{Key}
use Rattle.doc_model.specs.Layers.{at}
use Rattle.whole_tiles.specs.Wholes.{Entire}
use Rattle.walker_core.specs.Composing.{Composition}
use Rattle.machine_model.specs.State.{State}
use Rattle.machine_model.specs.Groups.{cache}
use Rattle.machine_model.specs.Step.{Run}
use Rattle.desk_state.specs.Enabled.{IsEnd, MayEnd}
use Rattle.desk_events.specs.AtWork.{HasPublished}
use Rattle.desk_events.specs.Commits.{MayCommit, MayPublishRow, RunsFront, row_events}
use Rattle.desk_core.specs.Commits.{commit_events}
use Rattle.desk_core.specs.Roots.{RootStays}
use Rattle.desk_core.specs.declared.answers.Published.{Published}
use Rattle.desk_core.specs.declared.answers.Published.TheVariants as answers
use Rattle.desk_events.specs.declared.tickets.SlotId.{SlotId}
use Rattle.host_lines.specs.declared.answer.Answer.{Answer}
use Rattle.host_lines.specs.declared.answer.Answer.TheVariants as answer
use Rattle.host_pieces.specs.declared.piece.Piece.{Piece}
use Rattle.host_pieces.specs.declared.piece.Piece.TheVariants as piece
use Rattle.host_pieces.specs.declared.job_piece.JobPiece.{JobPiece}
use Rattle.host_pieces.specs.Jobs.{are_made}
use Rattle.host_pieces.specs.Pieces.{patch_in}
use Rattle.host_pieces.specs.Walks.{HasAllRows, IsWhole, WalkWork, composed_by}

-- ---- jobs

-- a job's tiles, as they were given: committed; not all painted; not what the desk waits for; or some of them published, from the first on, or none
abbrev pub TilesGiven : State → SlotId → Option (List Entire) → Answer → State → Type 0
TilesGiven s slot (Some tiles) answer.Done t = MayCommit s slot.place slot.serial tiles × Run s (commit_events slot.place tiles) t
TilesGiven s slot (Some tiles) answer.Stranger t = (MayCommit s slot.place slot.serial tiles → ⊥) × (t ≡ s)
TilesGiven s slot (Some tiles) answer.NoMemory t = RunsFront s (commit_events slot.place tiles) t
TilesGiven s slot (Some tiles) a t = ⊥
TilesGiven s slot None a t = (a ≡ answer.Undone) × (t ≡ s)

-- a job was given, and what its piece has
abbrev pub JobGiven : State → JobPiece → Answer → State → Type 0
JobGiven s j a t = TilesGiven s j.slot (are_made j.stage) a t

-- the job in the slot has published so many of the first tiles, and not the next one
pub record IsUnpublished (s : State) (slot : SlotId) (tiles : List Entire) (count : ℕ) : Type 0 where
  pub few : count ≤ length tiles
  pub published : (i : ℕ) (x : Entire) → i < count → slice_get tiles i ≡ Some x → HasPublished s slot.place slot.serial x.key
  pub next : (x : Entire) → slice_get tiles count ≡ Some x → HasPublished s slot.place slot.serial x.key → ⊥

-- those first tiles were let go that the job in the slot has published
pub record LetsGo (s : State) (slot : SlotId) (old new : List Entire) : Type 0 where
  pub count : ℕ
  pub rest : new ≡ drop count old
  pub unpublished : IsUnpublished s slot old count

-- memory ended while a job's tiles were published: the others stay in the piece, and where the desk waited for all of them, it waits for these
pub record KeepsOthers (s t : State) (old new : JobPiece) : Type 0 where
  pub had : List Entire
  pub was : are_made old.stage ≡ Some had
  pub has : List Entire
  pub is : are_made new.stage ≡ Some has
  pub lets_go : LetsGo t old.slot had has
  pub goes_on : MayCommit s old.slot.place old.slot.serial had → MayCommit t old.slot.place old.slot.serial has

-- what a job's piece has then, by the answer
pub record JobKept (s t : State) (old : JobPiece) (a : Answer) (new : JobPiece) : Type 0 where
  pub slot : new.slot ≡ old.slot
  pub same : (a ≡ answer.NoMemory → ⊥) → new ≡ old
  pub others : a ≡ answer.NoMemory → KeepsOthers s t old new

-- ---- walks

-- these tiles of the walk in the slot were published, one after another, as they were composed
abbrev pub RowsGiven : SlotId → Composition → List Key → State → State → Type 0
RowsGiven slot c [] s t = t ≡ s
RowsGiven slot c (key ∷ keys) s t = (mid : State) × MayPublishRow s slot.place slot.serial c key × Run s (row_events s slot.place key) mid × RowsGiven slot c keys mid t

-- so were those before that key
pub record ComesTo (slot : SlotId) (c : Composition) (keys : List Key) (key : Key) (s t : State) : Type 0 where
  pub count : ℕ
  pub here : slice_get keys count ≡ Some key
  pub given : RowsGiven slot c (take count keys) s t

-- that tile isn't taken
abbrev pub IsRefused : State → SlotId → Composition → List Key → State → Type 0
IsRefused s slot c keys t = (key : Key) × ComesTo slot c keys key s t × (MayPublishRow t slot.place slot.serial c key → ⊥)

-- memory ended within it
abbrev pub BreaksOff : State → SlotId → Composition → List Key → State → Type 0
BreaksOff s slot c keys t = (mid : State) × (key : Key) × ComesTo slot c keys key s mid × RunsFront mid (row_events mid slot.place key) t

-- what became of the tiles
abbrev pub RowsAnswered : {E : Type 0} → State → SlotId → Composition → List Key → Result Published E → State → Type 0
RowsAnswered s slot c keys (Ok answers.Stored) t = RowsGiven slot c keys s t
RowsAnswered s slot c keys (Ok answers.Nothing) t = IsRefused s slot c keys t
RowsAnswered s slot c keys (Err e) t = BreaksOff s slot c keys t

-- the walk ended if it might; a piece that has not all of its tiles may be given before others are
abbrev pub WalkEnded : State → WalkWork → Answer → State → Type 0
WalkEnded s w answer.Done t =
    (MayEnd s w.ticket.slot.place w.ticket.slot.serial × IsEnd s w.ticket.slot.place t)
    ⊎ ((MayEnd s w.ticket.slot.place w.ticket.slot.serial → ⊥) × (IsWhole w → ⊥) × (t ≡ s))
WalkEnded s w answer.Stranger t = (MayEnd s w.ticket.slot.place w.ticket.slot.serial → ⊥) × IsWhole w × (t ≡ s)
WalkEnded s w a t = ⊥

-- these tiles of a walk were published, and it was to end; or not all of them were
abbrev pub PartGiven : State → WalkWork → List Key → Answer → State → Type 0
PartGiven s w keys a t =
    ((mid : State) × RowsGiven w.ticket.slot (composed_by w) keys s mid × WalkEnded mid w a t)
    ⊎ ((a ≡ answer.Stranger) × IsRefused s w.ticket.slot (composed_by w) keys t)
    ⊎ ((a ≡ answer.NoMemory) × BreaksOff s w.ticket.slot (composed_by w) keys t)

-- a walk was given; where not all of its tiles were composed, nothing is published
abbrev pub WalkGiven : State → WalkWork → Answer → State → Type 0
WalkGiven s w a t = (HasAllRows w × PartGiven s w w.keys a t) ⊎ ((HasAllRows w → ⊥) × (a ≡ answer.Undone) × (t ≡ s))

-- the desk waits for all tiles of a walk's piece, as they were composed
abbrev pub AwaitsWalk : State → WalkWork → Type 0
AwaitsWalk s w = (i : ℕ) (key : Key) → slice_get w.keys i ≡ Some key → MayPublishRow s w.ticket.slot.place w.ticket.slot.serial (composed_by w) key

-- what a walk's piece has then: what it had; and after want of memory the desk waits for it still, if it waited before
pub record WalkKept (s t : State) (old : WalkWork) (a : Answer) (new : WalkWork) : Type 0 where
  pub same : new ≡ old
  pub goes_on : a ≡ answer.NoMemory → AwaitsWalk s old → AwaitsWalk t old

-- ---- pieces

-- a piece was given
abbrev pub WorkGiven : State → Piece → Answer → State → Type 0
WorkGiven s piece.Empty a t = (a ≡ answer.Shut) × (t ≡ s)
WorkGiven s (piece.Job j) a t = JobGiven s j a t
WorkGiven s (piece.Walk w) a t = WalkGiven s w a t

-- what the piece has then, if it still has work: what it had, but of a job for which memory ended
abbrev pub WorkKept : State → State → Piece → Answer → Piece → Type 0
WorkKept s t (piece.Job j) a (piece.Job k) = JobKept s t j a k
WorkKept s t (piece.Walk v) a (piece.Walk w) = WalkKept s t v a w
WorkKept s t p a q = q ≡ p

-- ---- the root's picture

-- the root's cache changed within the rectangle alone, or nowhere
abbrev pub ChangesWithin : Option Area → State → State → Type 0
ChangesWithin None s t = RootStays s t
ChangesWithin (Some rect) s t = (p : Point) → holds rect p ≡ false → at (cache t.caches 0) p ≡ at (cache s.caches 0) p

-- the desk waits for the work, if it is a walk
abbrev pub Awaits : State → Piece → Type 0
Awaits s (piece.Walk w) = AwaitsWalk s w
Awaits s p = Unit {0}

-- whatever the answer, the root's cache changed within the work's rectangle alone; after want of memory so it is if the desk waits for the work
abbrev pub StaysOutside : State → Piece → Answer → State → Type 0
StaysOutside s p a t = (a ≡ answer.NoMemory → Awaits s p) → ChangesWithin (patch_in p) s t
