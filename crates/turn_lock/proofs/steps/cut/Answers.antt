use Rattle.std.proofs.Common.{ap}
use Rattle.turn_lock.proofs.Passing.{splits}
use Rattle.turn_lock.proofs.steps.cut.Goals as goal

pub split_seat-requires : goal.split_seat-requires
split_seat-requires g c =
    let s = c.requires.start.2 in
    (c.requires.table.0, c.requires.table.1, splits g.D.Board.artist g.D.Board.lawful g.D.Board.history g.D.Board.fixed _ _ _ (ap (λ m. m.0.turn) s) (ap (λ m. m.0.made) s))
