use Rattle.std.proofs.Common.{refl, sym, ◌∙◌}
use Rattle.geom_core.proofs.Tests.{never}
use Rattle.desk_events.proofs.WalkedRows.{read_as_work, row_read}
use Rattle.desk_core.proofs.desk.Desk.publish_row.Goals as goal

pub returns-then-not-reads_as_work-clause-answer : goal.returns-then-not-reads_as_work-clause-answer
returns-then-not-reads_as_work-clause-answer c = rw (← c.self.view_is) (
  λ may. never (sym c.if-not-reads_as_work.true ∙ c.reads_as_work.ensures.1 (row_read c.self.inside.machine c.args.slot.place c.args.slot.serial c.args.composed.now c.args.key may)),
  refl,
)

pub publish_known_row-requires : goal.publish_known_row-requires
publish_known_row-requires c = rw (← c.self.view_is) (read_as_work c.self.inside.machine c.args.slot.place c.args.slot.serial c.args.composed.now c.args.key (c.reads_as_work.ensures.0 c.if-not-reads_as_work.false))
