use Rattle.std.proofs.Common.{eqb}
use mathlib.Core.Option.{none}
use prog.Atomic.{either}
use Rattle.atomic_table.specs.Table.{step}
use Rattle.turn_lock.proofs.Calling.{marks, begins}
use Rattle.turn_lock.proofs.steps.begin.Goals as goal

pub compare_exchange-requires : goal.compare_exchange-requires
compare_exchange-requires g c =
    (c.requires.table.0, c.requires.table.1, begins g.D.Board.artist g.D.Board.lawful g.D.Board.history g.D.Board.fixed _ (λ n. either (eqb n 0) 1 n) marks _ _ _ (step c.args.table.now.table_id.slots 0 0 1 none) c.requires.number)
