use Rattle.std.proofs.Common.{◌≡◌, None, subst}
use Rattle.std.specs.Prelude.{IfNone, IfSome}
use Rattle.machine_model.specs.State.{State, head_stroke}
use Rattle.desk_state.specs.Choices.{IsHeadOf}
use Rattle.desk_events.specs.Kept.{parts_of}
use Rattle.desk_state.proofs.Heads.{known_head, no_head}
use Rattle.desk_events.proofs.machine.Machine.head_stroke.Goals as goal

pub returns-clause-some : goal.returns-clause-some
returns-clause-some c = subst (λ (s : State). IfSome c.head_stroke.result (IsHeadOf s)) c.self.view_is
    (known_head (parts_of c.self.inside) c.head_stroke.result c.self.invariant c.head_stroke.ensures)

pub returns-clause-none : goal.returns-clause-none
returns-clause-none c = subst (λ (s : State). IfNone c.head_stroke.result (head_stroke s ≡ None)) c.self.view_is
    (no_head (parts_of c.self.inside) c.head_stroke.result c.self.invariant c.head_stroke.ensures)
