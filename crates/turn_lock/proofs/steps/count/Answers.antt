use mathlib.Core.Option.{none}
use Rattle.atomic_table.specs.Table.{step}
use Rattle.turn_lock.proofs.Calling.{counts}
use Rattle.turn_lock.proofs.steps.count.Goals as goal

pub load-requires : goal.load-requires
load-requires g c = (c.requires.table.0, c.requires.table.1, counts g.D.Board.artist g.D.Board.lawful g.D.Board.history g.D.Board.fixed _ _ _ _ (step c.args.table.now.table_id.slots 0 0 0 none))
