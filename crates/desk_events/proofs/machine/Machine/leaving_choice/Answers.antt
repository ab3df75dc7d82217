use Rattle.std.proofs.Common.{sym, ◌∙◌}
use Rattle.desk_state.proofs.Choosing.{cancel_now}
use Rattle.desk_events.proofs.machine.Machine.leaving_choice.Goals as goal

pub returns-then-no_painter : goal.returns-then-no_painter
returns-then-no_painter c = cancel_now c.args.self.now c.args.head.now c.requires.head c.requires.leaves c.if-head.true (sym c.no_painter.ensures.value ∙ c.if-no_painter.true)
