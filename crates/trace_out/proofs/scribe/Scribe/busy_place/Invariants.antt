use Rattle.std.proofs.Common.{◌≡◌, drop, map}
use Rattle.std.specs.List.{list_all}
use Rattle.machine_model.specs.State.{is_free}
use Rattle.desk_state.specs.Parts.{slot_of}
use Rattle.trace_out.proofs.scribe.Scribe.busy_place.Given as goal

-- all so far are free
abbrev pub invariant-loop-p : goal.invariant-loop-p
invariant-loop-p l = list_all is_free (drop l.p (map slot_of l.self.held)) ≡ list_all is_free (map slot_of l.self.held)
