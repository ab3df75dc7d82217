use Rattle.std.proofs.Common.{refl, sym, ◌∙◌, subst}
use Rattle.geom_core.proofs.Tests.{never}
use Rattle.desk_state.specs.Choices.{CanWalk, HeadWaits}
use Rattle.desk_state.proofs.SettlingRuns.{idle_waits}
use Rattle.desk_state.proofs.Wanting.{walk_wants}
use Rattle.desk_events.proofs.StepCounts.{on_err}
use Rattle.desk_core.proofs.desk.Desk.take_walk.Goals as goal

pub returns-in_err-start_walk-in-Some-clause-err : goal.returns-in_err-start_walk-in-Some-clause-err
returns-in_err-start_walk-in-Some-clause-err c =
    let can : CanWalk c.args.self.now c.in-Some.place = subst (λ s. CanWalk s c.in-Some.place) c.self.view_is c.in-Some.ensures.some in
    on_err c.from_residual.result (walk_wants c.args.self.now c.in-Some.place can.patch c.requires can.enabled, c.in_err-start_walk-in-Some.ensures.err)

pub returns-else-is_settled-clause-idle : goal.returns-else-is_settled-clause-idle
returns-else-is_settled-clause-idle c = rw (← c.self.view_is) (λ e. (record { unsettled = λ p. never (sym c.if-is_settled.false ∙ c.is_settled.ensures.1 p); head = subst HeadWaits (sym c.self.view_is) c.requires; walks = c.in-None.ensures.none }, refl))

pub returns-else-is_settled-clause-stuck : goal.returns-else-is_settled-clause-stuck
returns-else-is_settled-clause-stuck c = rw (← c.self.view_is) (λ e free. idle_waits c.self.inside.machine c.tell_sound.ensures.orderly free
    (record { unsettled = λ p. never (sym c.if-is_settled.false ∙ c.is_settled.ensures.1 p); head = subst HeadWaits (sym c.self.view_is) c.requires; walks = c.in-None.ensures.none }))
