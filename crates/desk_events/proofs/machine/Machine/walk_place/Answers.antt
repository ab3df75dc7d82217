use Rattle.std.proofs.Common.{sym, ◌∙◌}
use Rattle.desk_state.proofs.Walkable.{exclusive_wait}
use Rattle.desk_events.proofs.machine.Machine.walk_place.Goals as goal

pub returns-then-is_exclusive-clause-none : goal.returns-then-is_exclusive-clause-none
returns-then-is_exclusive-clause-none c = exclusive_wait c.args.self.now (sym c.is_exclusive.ensures ∙ c.if-is_exclusive.true)
