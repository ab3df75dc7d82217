use Rattle.std.proofs.Common.{◌≡◌, false, ◌&&◌, sym, ap, ◌∙◌, arith}
use Rattle.machine_model.specs.Slots.{no_painter}
use Rattle.desk_state.proofs.Choosing.{finish_now, finish_waits}
use Rattle.desk_events.proofs.machine.Machine.begun_choice.Goals as goal
use Rattle.desk_events.proofs.machine.Machine.begun_choice.Goals.{else-head-via-then-head+else-no_painter, else-head-via-else-head}

pub returns-then-no_painter : goal.returns-then-no_painter
returns-then-no_painter c = finish_now c.args.self.now c.args.head.now c.args.started c.requires.head c.tell_way.ensures c.requires.stays c.requires.way (omega (arith, c.if-started-head.false)) c.if-head.true (sym c.no_painter.ensures.value ∙ c.if-no_painter.true)

pub returns-else-head : goal.returns-else-head
returns-else-head c = finish_waits c.args.self.now c.args.head.now c.args.started c.requires.head c.tell_way.ensures c.requires.stays c.requires.way (omega (arith, c.if-started-head.false)) waits
  where
    waits : (c.args.head.now.closed && no_painter c.args.self.now) ≡ false
    waits = elim c.else-head.branch [
      | else-head-via-then-head+else-no_painter w ↦ (λ i. w.if-head.true i && (sym w.no_painter.ensures.value ∙ w.if-no_painter.false) i)
      | else-head-via-else-head w ↦ ap (λ b. b && no_painter c.args.self.now) w.if-head.false
    ]
