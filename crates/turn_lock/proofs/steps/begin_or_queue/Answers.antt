use Rattle.std.proofs.Common.{arith}
use mathlib.Core.Option.{none}
use Rattle.atomic_table.specs.Table.{step}
use Rattle.turn_lock.proofs.Calling.{begins}
use Rattle.turn_lock.proofs.steps.begin_or_queue.Goals as goal

pub swap-requires : goal.swap-requires
swap-requires g c =
    (c.requires.table.0, c.requires.table.1, begins g.D.Board.artist g.D.Board.lawful g.D.Board.history g.D.Board.fixed _ (λ n. 2) (λ n. omega arith) _ _ _ (step c.args.table.now.table_id.slots 0 2 0 none) c.requires.number)
