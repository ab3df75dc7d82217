use Rattle.turn_lock.proofs.Passing.{opens}
use Rattle.turn_lock.proofs.lock.TurnLock.new.Goals as goal

pub new-requires : goal.new-requires
new-requires g c =
    rw (c.in_ok-push.ensures.items, c.new-slots.ensures.items)
    (opens g.D.Board.artist g.D.Board.lawful g.D.Board.history g.D.Board.fixed _ c.args.value c.requires.empty c.requires.fixed (rw c.from.ensures c.requires.artists))
