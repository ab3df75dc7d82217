-- Work that was just taken, as it is held.
use Rattle.std.proofs.Common.{◌≡◌, ℕ, suc, ◌-◌, ◌≤◌, List, [], map, Option, Some, None, refl, sym, ap, ◌∙◌, arith}
use Rattle.std.specs.Prelude.{slice_get, slice_set}
use Rattle.machine_model.specs.State as state
use Rattle.machine_model.specs.State.{State, Slot, Free, Paints, Walks}
use Rattle.machine_model.specs.Event.{Start, WalkStart}
use Rattle.machine_model.specs.Step.{Step}
use Rattle.machine_model.proofs.Lists.{get_set}
use Rattle.job_core.specs.Paints.{layer_of}
use Rattle.slot_core.specs.declared.Busy.{Busy}
use Rattle.desk_state.specs.declared.work.Work.{Work}
use Rattle.desk_state.specs.Parts.{slot_of, painter_of}
use Rattle.desk_state.specs.After.{busy_painter, busy_walker}
use Rattle.desk_state.proofs.Places.{free_as}
use Rattle.desk_events.specs.declared.tickets.PaintTicket.{PaintTicket}
use Rattle.desk_events.specs.declared.tickets.WalkTicket.{WalkTicket}
use Rattle.desk_events.specs.Tickets.{IsPaintTicket, IsWalkTicket}
use Rattle.trace_out.specs.Writing.{IsTied}
use Rattle.trace_out.specs.Lent.{IsLent, taken_job, taken_walk}
use Rattle.trace_out.proofs.Ties.{tied_set}

-- what stands in a place is what was put there
set_is : (xs ys : List Slot) (place : ℕ) (x y z : Slot) → slice_get xs place ≡ Some z → ys ≡ slice_set xs place x → slice_get ys place ≡ Some y → ys ≡ slice_set xs place y
set_is xs ys place x y z there is now = is ∙ ap (slice_set xs place) (same x y (sym (get_set xs place z x there) ∙ ap (λ l. slice_get l place) (sym is) ∙ now))
  where
    same : (a b : Slot) → Some a ≡ Some b → a ≡ b
    same a b e = cc

lent_new : (held : List (Option (Busy Work))) (place : ℕ) (s : State) → IsTied held s → slice_get s.slots place ≡ Some Free → slice_get held place ≡ Some None
lent_new held place s tie free = free_as held place (ap (λ l. slice_get l place) tie.slots ∙ free)

-- the index of a job, by its number
index_of : (t : PaintTicket) (index : ℕ) → t.job ≡ suc index → t.job - 1 ≡ index
index_of t index e = omega arith

-- the slot that a job's ticket tells of
job_slot : (t : PaintTicket) (index : ℕ) → t.job ≡ suc index → Paints (record { serial = t.slot.serial; index = index; job = t.work; shot = layer_of t.shot; published = [] }) ≡ slot_of (Some (busy_painter (taken_job t)))
job_slot t index e = ap (λ n. Paints (record { serial = t.slot.serial; index = n; job = t.work; shot = layer_of t.shot; published = [] })) (sym (index_of t index e))

-- a job was started
pub lent_job : (held : List (Option (Busy Work))) (s t : State) (ticket : PaintTicket) → IsTied held s → Step s (Start ticket.slot.place) t → IsPaintTicket ticket t → IsLent held ticket.slot.place (busy_painter (taken_job ticket)) t
lent_job held s t ticket tie step is = record {
  tied = tied_set held ticket.slot.place (Some (busy_painter (taken_job ticket))) s t (Start ticket.slot.place) tie step
      (set_is s.slots t.slots ticket.slot.place _ _ Free step.free (ap (λ (u : State). u.slots) step.new_is) is.runs ∙ ap (slice_set s.slots ticket.slot.place) (job_slot ticket is.index is.number))
      (refl, is.reads, is.checked, is.limits);
  empty = lent_new held ticket.slot.place s tie step.free;
}

-- a walk was started
pub lent_walk : (held : List (Option (Busy Work))) (s t : State) (ticket : WalkTicket) → IsTied held s → Step s (WalkStart ticket.slot.place ticket.inputs.patch) t → IsWalkTicket ticket t → IsLent held ticket.slot.place (busy_walker (taken_walk ticket)) t
lent_walk held s t ticket tie step is = record {
  tied = tied_set held ticket.slot.place (Some (busy_walker (taken_walk ticket))) s t (WalkStart ticket.slot.place ticket.inputs.patch) tie step
      (set_is s.slots t.slots ticket.slot.place _ _ Free step.free (ap (λ (u : State). u.slots) step.new_is) is.runs)
      refl;
  empty = lent_new held ticket.slot.place s tie step.free;
}
