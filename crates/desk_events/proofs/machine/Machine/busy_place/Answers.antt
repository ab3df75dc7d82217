use Rattle.std.proofs.Common.{◌≡◌, ◌+◌, drop, sym, ◌∙◌, subst}
use Rattle.std.specs.List.{list_all}
use Rattle.machine_model.specs.State.{State, is_free}
use Rattle.desk_events.proofs.FreeSlots.{free_next}
use Rattle.desk_events.proofs.machine.Machine.busy_place.Goals as goal

pub loop-place-preserved : goal.loop-place-preserved
loop-place-preserved c = subst (λ (s : State). list_all is_free (drop (c.loop-place.place + 1) s.slots) ≡ list_all is_free s.slots) c.self.view_is
    (free_next c.self.inside.slots c.loop-place.place c.work.result c.work.ensures (sym c.is_some.ensures ∙ c.if-is_some.false)
    (subst (λ (s : State). list_all is_free (drop c.loop-place.place s.slots) ≡ list_all is_free s.slots) (sym c.self.view_is) c.loop-place.invariant))
