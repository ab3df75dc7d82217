use Rattle.std.proofs.Common.{◌≡◌, false, ◌&&◌, sym, ap, ◌∙◌}
use Rattle.std.specs.Prelude.{not}
use Rattle.machine_model.specs.Slots.{no_walker}
use Rattle.desk_state.proofs.Choosing.{refuse_now, init_now}
use Rattle.desk_events.proofs.machine.Machine.new_choice.Goals as goal
use Rattle.desk_events.proofs.machine.Machine.new_choice.Goals.{else-head-2-via-then-head-2+else-not-no_walker, else-head-2-via-else-head-2}

pub returns-then-head : goal.returns-then-head
returns-then-head c = refuse_now c.args.self.now c.args.head.now c.requires.head c.requires.stays (sym c.has_layer.ensures ∙ c.if-not-has_layer.true) c.if-head.true

pub returns-else-head-2 : goal.returns-else-head-2
returns-else-head-2 c = init_now c.args.self.now c.args.head.now c.requires.head c.requires.stays c.requires.way (sym c.has_layer.ensures ∙ c.if-not-has_layer.false) alone
  where
    alone : (c.args.head.now.exclusive && not (no_walker c.args.self.now)) ≡ false
    alone = elim c.else-head-2.branch [
      | else-head-2-via-then-head-2+else-not-no_walker w ↦ (λ i. w.if-head-2.true i && not ((sym w.no_walker.ensures ∙ w.if-not-no_walker.false) i))
      | else-head-2-via-else-head-2 w ↦ ap (λ b. b && not (no_walker c.args.self.now)) w.if-head-2.false
    ]
