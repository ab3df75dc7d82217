use Rattle.std.proofs.Common.{eq-eqb}
use Rattle.turn_lock.proofs.calls.queue.Goals as goal

pub returns-then-found-eq-FREE-clause-turn : goal.returns-then-found-eq-FREE-clause-turn
returns-then-found-eq-FREE-clause-turn g c =
    let test = eq-eqb c.begin_or_queue-found.result 0 c.if-found-eq-FREE.true in
    rw (← c.loop.invariant.1) (rw test at c.begin_or_queue-found.ensures.turn)
