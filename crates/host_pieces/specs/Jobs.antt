-- Jobs as pieces of work.
use Rattle.std.specs.Prelude.{◌≡◌, ◌≤◌, ℕ, All, Option, Some, None, IsSome, List, length}
use Rattle.job_core.specs.Paints.{layer_of}
use Rattle.whole_tiles.specs.Plans.{Plan, tiles_of}
use Rattle.whole_tiles.specs.Wholes.{Entire}
use Rattle.slot_work.specs.Lacking.{IsOfJob, keys_of_tiles}
use Rattle.desk_events.specs.declared.tickets.PaintTicket.{PaintTicket}
use Rattle.host_pieces.specs.declared.job_piece.JobPiece.{JobPiece}
use Rattle.host_pieces.specs.declared.job_piece.Stage.{Stage}
use Rattle.host_pieces.specs.declared.job_piece.Stage.TheVariants as stage
use Rattle.host_pieces.specs.declared.taken_job.TakenJob.{TakenJob}
use Rattle.host_pieces.specs.Fronts.{IsFront}

-- it is the ticket's job, of which nothing is painted
pub record IsOfTicket (k : PaintTicket) (j : JobPiece) : Type 0 where
  pub slot : j.slot ≡ k.slot
  pub taken : TakenJob
  pub stage : j.stage ≡ stage.Taken taken
  pub work : taken.work ≡ k.work
  pub shot : taken.shot ≡ k.shot

-- the tiles were painted of this plan, and are the first of those that its job writes
pub record AreFirst (p : Plan) (tiles : List Entire) : Type 0 where
  pub of : All (IsOfJob p.job (layer_of p.shot)) tiles
  pub front : IsFront (tiles_of p.job) (keys_of_tiles tiles)

-- they are all of those
pub record AreAll (p : Plan) (tiles : List Entire) : Type 0 where
  pub of : All (IsOfJob p.job (layer_of p.shot)) tiles
  pub all : keys_of_tiles tiles ≡ tiles_of p.job

-- the stage is one of this plan's job
abbrev pub IsStageOf : Plan → Stage → Type 0
IsStageOf p (stage.Taken k) = (k.work ≡ p.job) × (k.shot ≡ p.shot)
IsStageOf p (stage.Painting q made) = (q ≡ p) × AreFirst p made.items
IsStageOf p (stage.Made made) = AreAll p made.items

-- how many tiles are painted
abbrev pub tile_count : Stage → ℕ
tile_count (stage.Taken k) = 0
tile_count (stage.Painting p made) = length made.items
tile_count (stage.Made made) = length made.items

-- its tiles are listed
abbrev pub is_listed : Stage → Type 0
is_listed (stage.Taken k) = ⊥
is_listed (stage.Painting p made) = Unit {0}
is_listed (stage.Made made) = Unit {0}

abbrev pub IsListed : JobPiece → Type 0
IsListed j = is_listed j.stage

-- these are the tiles that it has, once all are painted
abbrev pub are_made : Stage → Option (List Entire)
are_made (stage.Made made) = Some made.items
are_made s = None

-- all its tiles are painted
abbrev pub HasAllTiles : JobPiece → Type 0
HasAllTiles j = IsSome (are_made j.stage)

-- the painting went on, or stayed where it was; a job that was painted stays as it is
pub record GoesOn (old new : JobPiece) : Type 0 where
  pub slot : new.slot ≡ old.slot
  pub of : (p : Plan) → IsStageOf p old.stage → IsStageOf p new.stage
  pub count : tile_count old.stage ≤ tile_count new.stage
  pub made : HasAllTiles old → new ≡ old
