use Rattle.std.proofs.Common.{◌≡◌, ◌↔◌, true, false, refl, sym, ap, ◌∙◌, subst}
use Rattle.std.specs.Prelude.{◌&&◌, IsTrue}
use Rattle.machine_model.specs.State.{State}
use Rattle.machine_model.specs.Settled.{IsSettled}
use Rattle.machine_model.specs.Slots.{no_painter, no_walker}
use Rattle.desk_state.specs.Choices.{is_clean}
use Rattle.desk_events.specs.Kept.{parts_of}
use Rattle.desk_events.proofs.SettledDesk.{rests, goes_on}
use Rattle.desk_events.proofs.machine.Machine.is_settled.Goals as goal

pub returns-in-Some : goal.returns-in-Some
returns-in-Some c = subst (λ s. IsTrue false ↔ IsSettled s) c.self.view_is
    (goes_on (parts_of c.self.inside) c.self.invariant (λ none. never (c.in-Some.ensures.none.1 none)))
  where
    never : true ≡ false → ⊥
    never e = cc

pub returns-in-None : goal.returns-in-None
returns-in-None c = subst (λ s. IsTrue c.is_resting.result ↔ IsSettled s) c.self.view_is
    (rests (parts_of c.self.inside) c.self.invariant c.is_resting.result (c.in-None.ensures.none.0 refl)
    (c.is_resting.ensures ∙ ap (λ (s : State). is_clean s && no_painter s && no_walker s) (sym c.self.view_is)))
