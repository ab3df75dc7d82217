use Rattle.std.proofs.Common.{sym, ap, ◌∙◌}
use Rattle.machine_model.specs.State.{State}
use Rattle.desk_events.proofs.Untouched.{spares_is}
use Rattle.desk_events.proofs.machine.Machine.spares.Goals as goal

pub returns-then-saturating_sub-le-FEW : goal.returns-then-saturating_sub-le-FEW
returns-then-saturating_sub-le-FEW c h = spares_is c.args.self.now c.head_jobs.result.now c.args.since c.args.own c.in-Some.started c.args.key c.head_jobs.ensures.value (ap (λ (s : State). s.way) (sym c.self.view_is) ∙ c.in-Some.is) (c.are_spared.ensures h)
