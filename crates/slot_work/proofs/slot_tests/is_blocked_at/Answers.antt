use Rattle.std.proofs.Common.{Some, sym, ap, ◌∙◌}
use Rattle.std.specs.Option.{option_copied}
use Rattle.update_queue.proofs.Elements.{read_at}
use Rattle.desk_state.proofs.SlotTests.{blocks_some}
use Rattle.slot_work.proofs.slot_tests.is_blocked_at.Goals as goal

pub returns-in-Some : goal.returns-in-Some
returns-in-Some c slot h = c.excludes.ensures ∙ blocks_some c.args.slots.now c.args.place c.in-Some-Paint.painter c.args.jobs.now c.args.kind c.in-Some.field-0.now slot (sym c.in-Some-Paint.ensures ∙ ap Some c.in-Some-Paint.field-0-is) (sym (read_at c.get.result c.args.jobs.now c.in-Some-Paint.painter.index c.get.ensures.lookup.3) ∙ ap option_copied c.in-Some.is) h
