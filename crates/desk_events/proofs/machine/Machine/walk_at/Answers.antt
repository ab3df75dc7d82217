use Rattle.std.proofs.Common.{sym, ap, ◌∙◌, subst}
use Rattle.std.specs.Prelude.{slice_get}
use Rattle.std.specs.List.{find}
use Rattle.machine_model.specs.State.{State, head_stroke}
use Rattle.machine_model.specs.Guards.{is_exclusive}
use Rattle.update_queue.specs.Waiting.{avoids}
use Rattle.desk_state.specs.Choices.{CanWalk, WalksWait}
use Rattle.desk_state.proofs.Walkable.{can_walk, all_meet_wait}
use Rattle.desk_events.specs.Kept.{parts_of}
use Rattle.desk_events.proofs.machine.Machine.walk_at.Goals as goal

pub returns-in-Some-clause-some : goal.returns-in-Some-clause-some
returns-in-Some-clause-some c = subst (λ s. CanWalk s c.args.place) c.self.view_is (can_walk (parts_of c.self.inside) c.args.place c.in-Some.field-0 c.self.invariant (ap (λ rects. find (avoids rects) c.self.inside.updates.patches) (sym (c.as_slice.ensures.value ∙ c.running-running.ensures)) ∙ sym c.peek.ensures ∙ c.in-Some.is)
    (ap (λ (s : State). slice_get s.slots c.args.place) c.self.view_is ∙ c.requires.free) (ap (λ (s : State). is_exclusive (head_stroke s) s.way) c.self.view_is ∙ c.requires.shared))

pub returns-in-None-clause-none : goal.returns-in-None-clause-none
returns-in-None-clause-none c = subst WalksWait c.self.view_is (all_meet_wait (parts_of c.self.inside) c.self.invariant (ap (λ rects. find (avoids rects) c.self.inside.updates.patches) (sym (c.as_slice.ensures.value ∙ c.running-running.ensures)) ∙ sym c.peek.ensures ∙ c.in-None.is))
