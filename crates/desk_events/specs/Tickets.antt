-- What a ticket tells of the work that was just put into a slot.
use Rattle.std.specs.Prelude.{◌≡◌, ◌≤◌, ℕ, suc, true, Some, [], slice_get}
use Rattle.tile_core.specs.Shots.{sight_at}
use Rattle.doc_model.specs.Forest.{content}
use Rattle.doc_model.specs.Jobs.{reads, checks}
use Rattle.doc_model.specs.Layers.{Layer}
use Rattle.doc_model.specs.Lawful.{within_limits}
use Rattle.doc_model.specs.Strokes.{Stroke}
use Rattle.job_core.specs.Paints.{layer_of}
use Rattle.machine_model.specs.State.{State, Paints, Walks, head_stroke}
use Rattle.machine_model.specs.Event.{Start, WalkStart}
use Rattle.machine_model.specs.Step.{Step}
use Rattle.machine_model.specs.Guards.{kept_jobs}
use Rattle.desk_events.specs.declared.tickets.PaintTicket.{PaintTicket}
use Rattle.desk_events.specs.declared.tickets.WalkTicket.{WalkTicket}
use Rattle.desk_events.specs.Sparing.{ShowsBefore}

-- the job is at work in the ticket's slot, with the ticket's serial and shot, and is the one with that number of the stroke at the head; it may be painted on each tile that it writes, and the shot shows what the jobs before it leave of the layer, but where those since the ticket's index write
pub record IsPaintTicket (t : PaintTicket) (s : State) : Type 0 where
  pub stroke : Stroke
  pub at_head : head_stroke s ≡ Some stroke
  pub no : t.stroke ≡ stroke.no
  pub index : ℕ
  pub number : t.job ≡ suc index
  pub runs : slice_get s.slots t.slot.place ≡ Some (Paints (record { serial = t.slot.serial; index = index; job = t.work; shot = layer_of t.shot; published = [] }))
  pub checked : checks t.work ≡ true
  pub limits : within_limits t.work ≡ true
  pub reads : t.shot.rects ≡ reads t.work
  pub base : Layer
  pub was : content stroke.layer s.base ≡ Some base
  pub early : t.since ≤ index
  pub before : ShowsBefore (kept_jobs stroke) base t.since index t.work (sight_at t.shot)

-- the walk is at work in the ticket's slot, with the ticket's serial, and reads what the ticket has
pub record IsWalkTicket (t : WalkTicket) (s : State) : Type 0 where
  pub runs : slice_get s.slots t.slot.place ≡ Some (Walks (record { serial = t.slot.serial; patch = t.inputs.patch; shot = t.inputs.groups; published = [] }))

-- the job of the ticket starts in its slot
abbrev pub StartsJob : State → PaintTicket → State → Type 0
StartsJob old t new = Step old (Start t.slot.place) new × IsPaintTicket t new

-- the walk of the ticket starts in its slot
abbrev pub StartsWalk : State → WalkTicket → State → Type 0
StartsWalk old t new = Step old (WalkStart t.slot.place t.inputs.patch) new × IsWalkTicket t new
