use Rattle.std.proofs.Common.{sym, ◌∙◌}
use Rattle.desk_state.proofs.Choosing.{start_now}
use Rattle.desk_events.proofs.machine.Machine.start_choice.Goals as goal

pub returns-in-Some : goal.returns-in-Some
returns-in-Some c = start_now c.args.self.now c.args.head.now c.args.started c.in-Some.place c.requires.head c.requires.stays c.requires.way (λ t at. sym (c.may_run.ensures.value t at) ∙ c.if-not-may_run.false) c.in-Some.ensures.some
