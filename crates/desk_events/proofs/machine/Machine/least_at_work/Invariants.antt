use Rattle.std.proofs.Common.{◌≡◌, ◌≤◌, ◌<◌, ℕ, Some}
use Rattle.std.specs.Prelude.{slice_get}
use Rattle.machine_model.specs.State.{Painter, Paints}
use Rattle.desk_events.proofs.machine.Machine.least_at_work.Given as goal

-- it is none above those of the jobs so far
abbrev pub invariant-loop-place : goal.invariant-loop-place
invariant-loop-place l = (l.least ≤ l.own) × ((q : ℕ) (w : Painter) → q < l.place → slice_get l.self.slots q ≡ Some (Paints w) → l.least ≤ w.index)
