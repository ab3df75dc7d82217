use mathlib.Core.Option.{none}
use Rattle.atomic_table.specs.Table.{step}
use Rattle.turn_lock.proofs.Calling.{ends}
use Rattle.turn_lock.proofs.steps.end.Goals as goal

pub swap-requires : goal.swap-requires
swap-requires g c =
    let t = c.requires.turn in
    (c.requires.table.0, c.requires.table.1, ends g.D.Board.artist g.D.Board.lawful g.D.Board.history g.D.Board.fixed _ _ _ _ (step c.args.table.now.table_id.slots 0 0 0 none) t.0 t.1 t.2)
