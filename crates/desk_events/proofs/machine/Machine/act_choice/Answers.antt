use Rattle.std.proofs.Common.{Some, sym, ap, ◌∙◌, subst}
use Rattle.machine_model.specs.Event.{Act}
use Rattle.desk_state.specs.Enabled.{Enabled}
use Rattle.desk_state.specs.Choices.{acts_now}
use Rattle.desk_state.proofs.Wanting.{act_now}
use Rattle.desk_events.specs.Kept.{parts_of}
use Rattle.desk_events.proofs.machine.Machine.act_choice.Goals as goal

pub returns-then-may_act : goal.returns-then-may_act
returns-then-may_act c = subst (λ s. Enabled s Act) c.self.view_is
    (act_now (parts_of c.self.inside) c.in-Some-Other.command c.self.invariant (sym c.in-Some-Other.ensures.value ∙ ap Some c.in-Some-Other.field-0-is)
    (ap (λ s. acts_now s c.in-Some-Other.command) c.self.view_is ∙ sym c.may_act.ensures ∙ c.if-may_act.true))
