use Rattle.std.proofs.Common.{sym, ◌∙◌}
use Rattle.desk_steps.proofs.Devices.{on_err}
use Rattle.slot_work.proofs.rows.lay_group.Goals as goal

pub returns-clause-fresh : goal.returns-clause-fresh
returns-clause-fresh c = on_err c.lay_composed.result (sym c.has_pair.ensures ∙ c.if-has_pair.false)
