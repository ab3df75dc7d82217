-- Pieces of work, and what becomes of them.
use Rattle.std.specs.Prelude.{◌≡◌, ◌≢◌, ℕ, Result, Ok, Err, Option, None, IsSome}
use Rattle.geom_core.specs.Areas.{Area}
use Rattle.host_lines.specs.declared.answer.Answer.{Answer}
use Rattle.host_lines.specs.declared.answer.Answer.TheVariants as answer
use Rattle.host_pieces.specs.declared.piece.Piece.{Piece}
use Rattle.host_pieces.specs.declared.piece.Piece.TheVariants as piece
use Rattle.host_pieces.specs.Jobs.{GoesOn, HasAllTiles}
use Rattle.host_pieces.specs.Walks.{HasAllRows, IsParted, WalksOn, area_in, share_of}

-- the answer to work that may want memory
abbrev pub worked : {E : Type 0} → Result (Unit {0}) E → Answer
worked (Ok u) = answer.Done
worked (Err e) = answer.NoMemory

-- it is the same work
abbrev pub SameWork : Piece → Piece → Type 0
SameWork piece.Empty piece.Empty = Unit {0}
SameWork (piece.Job j) (piece.Job k) = k.slot ≡ j.slot
SameWork (piece.Walk v) (piece.Walk w) = w.ticket ≡ v.ticket
SameWork p q = ⊥

-- it is the same work, with what was done of it, or more
abbrev pub IsAhead : Piece → Piece → Type 0
IsAhead (piece.Job j) (piece.Job k) = GoesOn j k
IsAhead (piece.Walk v) (piece.Walk w) = WalksOn v w
IsAhead p q = ⊥

-- all its work is done
abbrev pub IsDone : Piece → Type 0
IsDone piece.Empty = ⊥
IsDone (piece.Job j) = HasAllTiles j
IsDone (piece.Walk w) = HasAllRows w

-- a piece was worked on
abbrev pub Worked : Piece → Answer → Piece → Type 0
Worked old answer.Done new = IsAhead old new × IsDone new
Worked old answer.NoMemory new = IsAhead old new
Worked old answer.Shut new = (old ≡ piece.Empty) × (new ≡ piece.Empty)
Worked old a new = ⊥

-- how many tiles are given away of its work, where there are so many shares
abbrev pub share_in : ℕ → Piece → Option ℕ
share_in shares (piece.Walk w) = share_of shares w
share_in shares p = None

-- a walk was parted between two pieces
abbrev pub Parted : ℕ → Piece → Piece → Piece → Type 0
Parted shares (piece.Walk w) (piece.Walk new) (piece.Walk other) = IsParted shares w new other
Parted shares old new other = ⊥

-- it was parted between the piece and another one; or the piece is as it was, and there is no other: it has no work, none to give away, or there is no memory
abbrev pub Shared : ℕ → Piece → Answer → Piece → Piece → Type 0
Shared shares old answer.Done other new = Parted shares old new other
Shared shares old answer.Shut other new = (old ≡ piece.Empty) × (other ≡ piece.Empty) × (new ≡ old)
Shared shares old answer.Nothing other new = (old ≢ piece.Empty) × (share_in shares old ≡ None) × (other ≡ piece.Empty) × (new ≡ old)
Shared shares old answer.NoMemory other new = IsSome (share_in shares old) × (other ≡ piece.Empty) × (new ≡ old)
Shared shares old a other new = ⊥

-- the rectangle in which its work composes anew
abbrev pub patch_in : Piece → Option Area
patch_in (piece.Walk w) = area_in w
patch_in p = None
