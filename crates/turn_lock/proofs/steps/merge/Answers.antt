use Rattle.turn_lock.proofs.Passing.{joins}
use Rattle.turn_lock.proofs.steps.merge.Goals as goal

pub join_seat-requires : goal.join_seat-requires
join_seat-requires g c =
    (c.requires.table.0, c.requires.table.1, c.requires.rests.2, c.requires.table.2, joins g.D.Board.artist g.D.Board.lawful g.D.Board.history g.D.Board.fixed _ _ _ _ _ c.requires.rests.0 c.requires.rests.1)
