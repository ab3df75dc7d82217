use Rattle.std.proofs.Common.{refl}
use Rattle.turn_lock.proofs.calls.end_turn.Goals as goal

pub end-requires-clause-turn : goal.end-requires-clause-turn
end-requires-clause-turn g c = rw c.give.ensures.view (c.args.value, refl, c.requires.turn)
