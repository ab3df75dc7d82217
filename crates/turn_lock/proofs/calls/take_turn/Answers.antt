use Rattle.std.proofs.Common.{◌∷◌, Some, ap, ◌∙◌}
use Rattle.turn_lock.proofs.calls.take_turn.Goals as goal

pub take-requires-clause-slot : goal.take-requires-clause-slot
take-requires-clause-slot g c =
    let t = c.wait_turn.ensures.turn in
    (t.0, ap (λ m. m.1) t.1 ∙ ap (λ l. (0, Some t.0) ∷ l) c.requires.slot)
