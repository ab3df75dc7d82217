-- Jobs that were taken, and tiles that were made of them, as contracts see them.
use Rattle.std.specs.Prelude.{◌≡◌, ℕ, true, Option, Some, List, refl, slice_get}
use Rattle.std.specs.List.{All}
use Rattle.std.specs.Coded.{Coded, code_by, coded×, coded_list}
use Rattle.geom_core.specs.Areas.{Point}
use Rattle.doc_model.specs.declared.job.Job.{Job}
use Rattle.doc_model.specs.Shots.{in_tile}
use Rattle.job_core.specs.Paints.{layer_of}
use Rattle.tile_core.specs.Shots.{Sight, sight_at}
use Rattle.stamped_desk.specs.Marks.{Mark}
use Rattle.whole_tiles.specs.Plans.{Plan}
use Rattle.whole_tiles.specs.Wholes.{Entire, entire_code}
use Rattle.slot_work.specs.Lacking.{IsOfJob}
use Rattle.desk_events.specs.declared.tickets.SlotId.{SlotId}
use Rattle.desk_events.specs.contracts.tickets.SlotId as slot_id
use Rattle.desk_events.specs.declared.tickets.PaintTicket.{PaintTicket}
use Rattle.desk_core.specs.declared.tickets.Taken.{Taken}
use Rattle.desk_core.specs.declared.tickets.Taken.TheVariants as taken

-- the ticket of a job that is to be painted
abbrev pub ticket_of : SlotId → ℕ → ℕ → ℕ → Plan → PaintTicket
ticket_of slot stroke job since p = record { slot = slot; stroke = stroke; job = job; since = since; work = p.job; shot = p.shot }

-- tiles for a slot
pub record Batch : Type 0 where
  pub slot : SlotId
  pub tiles : List Entire

-- these parts together
abbrev pub batch : SlotId → List Entire → Batch
batch slot tiles = record { slot = slot; tiles = tiles }

-- the tile was made of the job, from pixels that the shot shows, and all those of its place are the shot's
pub record IsMadeOf (job : Job) (shot : Sight) (x : Entire) : Type 0 where
  pub of : IsOfJob job (layer_of shot) x
  pub own : (p : Point) → in_tile x.key p ≡ true → sight_at x.base p ≡ sight_at shot p

-- what was stamped is a job of the slot, with that index of the first job at work when it started, and each of the tiles was made of it and its shot
pub record AreMadeOf (m : Mark Taken) (first : ℕ) (b : Batch) : Type 0 where
  pub ticket : PaintTicket
  pub stamped : m.value ≡ Some (taken.Paint ticket)
  pub slot : ticket.slot ≡ b.slot
  pub since : ticket.since ≡ first
  pub made : All (IsMadeOf ticket.work ticket.shot) b.tiles

-- there is a stamp, and what was stamped with it stands among these
pub record IsKnown (ts : List Taken) (o : Option (Mark Taken)) : Type 0 where
  pub mark : Mark Taken
  pub there : o ≡ Some mark
  pub stands : slice_get ts mark.number ≡ mark.value

-- both are there, and were made for one value
pub record AreOne (a b : Option (Mark Taken)) : Type 0 where
  pub one : Mark Taken
  pub other : Mark Taken
  pub first : a ≡ Some one
  pub second : b ≡ Some other
  pub same : one.value ≡ other.value

-- the code by which contracts tell batches apart
abbrev pub batch_code : Coded Batch
batch_code = code_by (SlotId × List Entire) (coded× (slot_id.the_row).coded (coded_list entire_code)) (λ b. (b.slot, b.tiles)) (λ t. batch t.0 t.1) (λ _. refl)
