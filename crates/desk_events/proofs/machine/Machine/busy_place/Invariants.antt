use Rattle.std.proofs.Common.{◌≡◌, drop}
use Rattle.std.specs.List.{list_all}
use Rattle.machine_model.specs.State.{is_free}
use Rattle.desk_events.proofs.machine.Machine.busy_place.Given as goal

-- all so far are free
abbrev pub invariant-loop-place : goal.invariant-loop-place
invariant-loop-place l = list_all is_free (drop l.place l.self.slots) ≡ list_all is_free l.self.slots
