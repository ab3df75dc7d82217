-- What calls through handles do.
use Rattle.std.specs.Prelude.{◌≡◌, ◌⊎◌, ◌≤◌, ℕ, Bool, true, false, Option, Some, None, Result, Ok, Err, List, [], ◌∷◌, length, slice_get}
use Rattle.std.specs.List.{list_all}
use Rattle.geom_core.specs.Areas.{Area}
use Rattle.geom_core.specs.Grid.{Key}
use Rattle.frame_core.specs.Frames.{Scene}
use Rattle.doc_model.specs.declared.canvas.Canvas.{Canvas}
use Rattle.doc_model.specs.declared.command.Command.{Command}
use Rattle.doc_model.specs.declared.command.Outcome.{Outcome}
use Rattle.doc_model.specs.Feeding.{is_closed_entry}
use Rattle.doc_model.specs.Picture.{canvas_area}
use Rattle.doc_model.specs.Strokes.{entries}
use Rattle.script_lines.specs.declared.cause.Cause.TheVariants.{Range, StrokeLeft}
use Rattle.script_text.specs.declared.script.ReadRefusal.{ReadRefusal}
use Rattle.script_text.specs.declared.script.ReadRefusal.TheVariants as refusal
use Rattle.machine_model.specs.Covers.{covered}
use Rattle.machine_model.specs.State.{State, new_state}
use Rattle.desk_state.specs.Cached.{ShowsCache}
use Rattle.slot_work.specs.Round.{IsRound}
use Rattle.desk_events.specs.Shown.{ShowsWhereClean}
use Rattle.host_lines.specs.declared.answer.Answer.{Answer}
use Rattle.host_lines.specs.declared.answer.Answer.TheVariants as answer
use Rattle.host_lines.specs.Answers.{code_of}
use Rattle.host_lines.specs.Lines.{has_more, line_fault, said}
use Rattle.host_pieces.specs.declared.piece.Piece.{Piece}
use Rattle.host_pieces.specs.declared.piece.Piece.TheVariants as piece
use Rattle.host_desk.specs.Feeding.{Fed, command_fault}
use Rattle.host_pieces.specs.Giving.{ChangesWithin, StaysOutside, WorkGiven, WorkKept}
use Rattle.host_desk.specs.Opening.{OpensScript}
use Rattle.host_pieces.specs.Pieces.{SameWork, patch_in}
use Rattle.host_pieces.specs.Pieces as pieces
use Rattle.host_desk.specs.Taking.{Took}
use Rattle.host_desk.specs.Texts.{TextTold}
use Rattle.host_desk.specs.Tiles.{TileTold}
use Rattle.host_desk.specs.Views.{FrameRow, PartOf}
use Rattle.host_lines.specs.declared.structs.StrokesCanvas.{StrokesCanvas}
use Rattle.host_lines.specs.declared.structs.StrokesCount.{StrokesCount}
use Rattle.host_lines.specs.declared.structs.StrokesOutcome.{StrokesOutcome}
use Rattle.host_lines.specs.declared.structs.StrokesRect.{StrokesRect}
use Rattle.host_lines.specs.Structs.{canvas_told, outcome_told, rect_by}

-- a call on a desk: on a shut one, or on one that it left like this with the answer of that number
abbrev pub Called : (State → Answer → State → Type 0) → List State → ℕ → List State → Type 0
Called P old code new =
    ((old ≡ []) × (new ≡ []) × (code ≡ code_of answer.Shut))
    ⊎ ((s t : State) × (a : Answer) × (old ≡ s ∷ []) × (new ≡ t ∷ []) × (code ≡ code_of a) × P s a t)

-- a call that asks a desk, with that answer to a shut one
abbrev pub Asked : (State → Answer → Type 0) → Type 0 → List State → ℕ → Type 0
Asked P Unsaid old code =
    ((old ≡ []) × (code ≡ code_of answer.Shut) × Unsaid)
    ⊎ ((s : State) × (a : Answer) × (old ≡ s ∷ []) × (code ≡ code_of a) × P s a)

-- a line was fed
abbrev pub FedLine : List ℕ → State → Answer → State → Type 0
FedLine bytes s a t =
    ((has_more bytes ≡ true) × (a ≡ answer.SecondLine) × (t ≡ s))
    ⊎ ((has_more bytes ≡ false) × Fed s (line_fault s.canvas s.fed bytes) (said bytes) a t)

-- a command was fed, or one of its values is out of range
abbrev pub FedValue : Option Command → State → Answer → State → Type 0
FedValue None s a t = (a ≡ answer.Fault Range) × (t ≡ s)
FedValue (Some c) s a t = Fed s (command_fault s.fed c) (c ∷ []) a t

-- whether all strokes are closed was told
abbrev pub closed_answer : Bool → Answer
closed_answer true = answer.Done
closed_answer false = answer.Fault StrokeLeft

abbrev pub ClosedTold : State → Answer → State → Type 0
ClosedTold s a t = (a ≡ closed_answer (list_all is_closed_entry (entries s.fed))) × (t ≡ s)

-- there is no room in a piece: it has work, or memory ended
abbrev pub HasNoRoom : List Piece → Answer → Type 0
HasNoRoom old a = ((p : Piece) × (old ≡ p ∷ []) × (a ≡ answer.InUse)) ⊎ ((old ≡ []) × (a ≡ answer.NoMemory))

-- what was taken came into a shut piece; one with work stays; or there was no memory for a piece, and nothing was taken
abbrev pub TakenInto : State → List Piece → Answer → State → List Piece → Type 0
TakenInto s old a t new =
    (HasNoRoom old a × (new ≡ old) × (t ≡ s))
    ⊎ ((p : Piece) × (old ≡ []) × (new ≡ p ∷ []) × (a ≡ answer.Done) × Took s a p t)
    ⊎ ((old ≡ []) × (new ≡ []) × ((a ≡ answer.Done) → ⊥) × Took s a piece.Empty t)

abbrev pub TookPiece : List State → List Piece → ℕ → List State → List Piece → Type 0
TookPiece old held code new holds =
    ((old ≡ []) × (new ≡ []) × (holds ≡ held) × (code ≡ code_of answer.Shut))
    ⊎ ((s t : State) × (a : Answer) × (old ≡ s ∷ []) × (new ≡ t ∷ []) × (code ≡ code_of a) × TakenInto s held a t holds)

-- a piece was worked on
abbrev pub WorkedOn : List Piece → ℕ → List Piece → Type 0
WorkedOn old code new =
    ((old ≡ []) × (new ≡ []) × (code ≡ code_of answer.Shut))
    ⊎ ((p q : Piece) × (a : Answer) × (old ≡ p ∷ []) × (new ≡ q ∷ []) × (code ≡ code_of a) × pieces.Worked p a q)

-- some of a piece's tiles came into a shut piece; one with work stays; or there was no memory for a piece, and nothing was shared
abbrev pub SharedInto : ℕ → Piece → List Piece → Answer → Piece → List Piece → Type 0
SharedInto shares p old a q new =
    (HasNoRoom old a × (new ≡ old) × (q ≡ p))
    ⊎ ((other : Piece) × (old ≡ []) × (new ≡ other ∷ []) × (a ≡ answer.Done) × pieces.Shared shares p a other q)
    ⊎ ((old ≡ []) × (new ≡ []) × ((a ≡ answer.Done) → ⊥) × pieces.Shared shares p a piece.Empty q)

abbrev pub SharedOut : ℕ → List Piece → List Piece → ℕ → List Piece → List Piece → Type 0
SharedOut shares old held code new holds =
    ((old ≡ []) × (new ≡ []) × (holds ≡ held) × (code ≡ code_of answer.Shut))
    ⊎ ((p q : Piece) × (a : Answer) × (old ≡ p ∷ []) × (new ≡ q ∷ []) × (code ≡ code_of a) × SharedInto shares p held a q holds)

-- a piece was given: the desk has it, and the rectangle outside of which no pixel of the root's picture changed is told; or the piece keeps its work, and no pixel changed outside of that one either
abbrev pub GivenFrom : State → List Piece → StrokesRect → Answer → State → List Piece → StrokesRect → Type 0
GivenFrom s old drawn a t new draws =
    ((old ≡ []) × (new ≡ []) × (draws ≡ drawn) × (a ≡ answer.Shut) × (t ≡ s))
    ⊎ ((p : Piece) × (old ≡ p ∷ []) × (new ≡ []) × (draws ≡ rect_by (patch_in p)) × (a ≡ answer.Done) × WorkGiven s p a t × ChangesWithin (patch_in p) s t)
    ⊎ ((p q : Piece) × (old ≡ p ∷ []) × (new ≡ q ∷ []) × (draws ≡ drawn) × ((a ≡ answer.Done) → ⊥) × WorkGiven s p a t × SameWork p q × WorkKept s t p a q × StaysOutside s p a t)

abbrev pub GavePiece : List State → List Piece → StrokesRect → ℕ → List State → List Piece → StrokesRect → Type 0
GavePiece old held drawn code new holds draws =
    ((old ≡ []) × (new ≡ []) × (holds ≡ held) × (draws ≡ drawn) × (code ≡ code_of answer.Shut))
    ⊎ ((s t : State) × (a : Answer) × (old ≡ s ∷ []) × (new ≡ t ∷ []) × (code ≡ code_of a) × GivenFrom s held drawn a t holds draws)

-- a desk may have so many slots
pub record AreSlots (slots : ℕ) : Type 0 where
  pub some : 1 ≤ slots
  pub few : slots ≤ 17

-- a desk was opened into a shut handle; or a number is outside its range; or memory ended
abbrev pub OpenedOn : Option Canvas → ℕ → ℕ → List State → Type 0
OpenedOn canvas slots code new =
    ((c : Canvas) × (canvas ≡ Some c) × AreSlots slots × (code ≡ code_of answer.Done) × (new ≡ new_state c slots ∷ []))
    ⊎ (((canvas ≡ None) ⊎ (AreSlots slots → ⊥)) × (code ≡ code_of (answer.Fault Range)) × (new ≡ []))
    ⊎ ((c : Canvas) × (canvas ≡ Some c) × AreSlots slots × (code ≡ code_of answer.NoMemory) × (new ≡ []))

abbrev pub Opened : Option Canvas → ℕ → List State → ℕ → List State → Type 0
Opened canvas slots old code new =
    ((s : State) × (old ≡ s ∷ []) × (new ≡ s ∷ []) × (code ≡ code_of answer.InUse))
    ⊎ ((old ≡ []) × OpenedOn canvas slots code new)

-- a desk was opened for a script, or why not
abbrev pub BoxedScript : List ℕ → ℕ → Result (List State) ReadRefusal → Type 0
BoxedScript text slots (Ok new) = (s : State) × (new ≡ s ∷ []) × OpensScript text slots (Ok s)
BoxedScript text slots (Err e) = OpensScript text slots (Err e)

-- what was told of it: the answer, the handle's desk and the line
abbrev pub ScriptTold : Result (List State) ReadRefusal → ℕ → ℕ → List State → ℕ → Type 0
ScriptTold (Ok opened) line code new told = (code ≡ code_of answer.Done) × (new ≡ opened) × (told ≡ line)
ScriptTold (Err (refusal.Fault f)) line code new told = (code ≡ code_of (answer.Fault f.cause)) × (new ≡ []) × (told ≡ f.line)
ScriptTold (Err refusal.NoMemory) line code new told = (code ≡ code_of answer.NoMemory) × (new ≡ []) × (told ≡ line)

abbrev pub ScriptOpened : List ℕ → ℕ → ℕ → ℕ → List State → ℕ → Type 0
ScriptOpened text slots line code new told =
    ((AreSlots slots → ⊥) × (code ≡ code_of (answer.Fault Range)) × (new ≡ []) × (told ≡ 0))
    ⊎ (AreSlots slots × (4294967295 ≤ length text) × (code ≡ code_of answer.NoRoom) × (new ≡ []) × (told ≡ line))
    ⊎ ((r : Result (List State) ReadRefusal) × AreSlots slots × BoxedScript text slots r × ScriptTold r line code new told)

abbrev pub OpenedScript : List ℕ → ℕ → List State → ℕ → ℕ → List State → ℕ → Type 0
OpenedScript text slots old line code new told =
    ((s : State) × (old ≡ s ∷ []) × (new ≡ s ∷ []) × (code ≡ code_of answer.InUse) × (told ≡ line))
    ⊎ ((old ≡ []) × ScriptOpened text slots line code new told)

-- a row of a frame was asked for
abbrev pub RowCalled : ℕ → ℕ → List ℕ → List State → ℕ → List ℕ → Type 0
RowCalled i y out old code now = Asked (λ s a. FrameRow s i y out a now) (now ≡ out) old code

-- how much there is was told
abbrev pub count_in : State → StrokesCount
count_in s = record { commands = length s.fed; outcomes = length s.outcomes; frames = length s.frames }

abbrev pub CountTold : List State → ℕ → StrokesCount → StrokesCount → Type 0
CountTold old code out now = Asked (λ s a. (a ≡ answer.Done) × (now ≡ count_in s)) (now ≡ out) old code

-- the canvas was told
abbrev pub CanvasTold : List State → ℕ → StrokesCanvas → StrokesCanvas → Type 0
CanvasTold old code out now = Asked (λ s a. (a ≡ answer.Done) × (now ≡ canvas_told s.canvas)) (now ≡ out) old code

-- what became of an entry was told, or it has had no turn
abbrev pub OutcomeTold : State → ℕ → Answer → StrokesOutcome → StrokesOutcome → Type 0
OutcomeTold s i answer.Done out now = (o : Outcome) × (slice_get s.outcomes i ≡ Some o) × (now ≡ outcome_told o)
OutcomeTold s i answer.Outside out now = (slice_get s.outcomes i ≡ None) × (now ≡ out)
OutcomeTold s i a out now = ⊥

abbrev pub OutcomeAsked : ℕ → List State → ℕ → StrokesOutcome → StrokesOutcome → Type 0
OutcomeAsked i old code out now = Asked (λ s a. OutcomeTold s i a out now) (now ≡ out) old code

-- lines of the text were written, and how far was told
abbrev pub TextGiven : State → ℕ → List ℕ → ℕ → Answer → ℕ → List ℕ → ℕ → Type 0
TextGiven s next out written answer.Done next' out' written' = TextTold s next out (Ok (record { next = next'; bytes = written' })) out'
TextGiven s next out written a next' out' written' = TextTold s next out (Err a) out' × (next' ≡ next) × (written' ≡ written)

abbrev pub TextCalled : List State → ℕ → List ℕ → ℕ → ℕ → ℕ → List ℕ → ℕ → Type 0
TextCalled old next out written code next' out' written' =
    Asked (λ s a. TextGiven s next out written a next' out' written') ((next' ≡ next) × (out' ≡ out) × (written' ≡ written)) old code

-- a rectangle was told with the answer that all went well, and with no other
abbrev pub DirtyTold : Answer → Option Area → StrokesRect → StrokesRect → Type 0
DirtyTold answer.Done d old new = new ≡ rect_by d
DirtyTold a d old new = new ≡ old

-- a tile was copied, and what of it isn't the picture's was told
abbrev pub TileGiven : State → Key → List ℕ → StrokesRect → Answer → List ℕ → StrokesRect → Type 0
TileGiven s k out dirty a out' dirty' = (d : Option Area) × TileTold s k out a d out' × DirtyTold a d dirty dirty'

abbrev pub TileCalled : Key → List State → List ℕ → StrokesRect → ℕ → List ℕ → StrokesRect → Type 0
TileCalled k old out dirty code out' dirty' = Asked (λ s a. TileGiven s k out dirty a out' dirty') ((out' ≡ out) × (dirty' ≡ dirty)) old code

-- a shot was taken, and what of it isn't the picture's was told; or memory ended
abbrev pub ShotTaken : State → List Scene → StrokesRect → Answer → List Scene → StrokesRect → Type 0
ShotTaken s old dirty answer.Done new dirty' =
    (f : Scene) × (d : Option Area) × (new ≡ f ∷ []) × ShowsCache s.caches s.canvas f
    × (dirty' ≡ rect_by d) × IsRound (canvas_area s.canvas) (covered s 0) d × ShowsWhereClean s
ShotTaken s old dirty answer.NoMemory new dirty' = (new ≡ old) × (dirty' ≡ dirty)
ShotTaken s old dirty a new dirty' = ⊥

abbrev pub TookShot : List State → List Scene → StrokesRect → ℕ → List Scene → StrokesRect → Type 0
TookShot old held dirty code holds dirty' = Asked (λ s a. ShotTaken s held dirty a holds dirty') ((holds ≡ held) × (dirty' ≡ dirty)) old code

-- pixels of a shot were asked for
abbrev pub PartCalled : ℕ → ℕ → ℕ → List Scene → List ℕ → ℕ → List ℕ → Type 0
PartCalled x y w held out code now =
    ((held ≡ []) × (code ≡ code_of answer.Shut) × (now ≡ out))
    ⊎ ((f : Scene) × (a : Answer) × (held ≡ f ∷ []) × (code ≡ code_of a) × PartOf f x y w out a now)
