use Rattle.std.proofs.Common.{Some, Option, List, ℕ, ◌∷◌, ap, sym, ◌∙◌}
use Rattle.atomic_table.specs.Table.{rest}
use Rattle.turn_lock.proofs.steps.take.Goals as goal

pub exchange-requires : goal.exchange-requires
exchange-requires g c = (c.requires.table, (Some c.requires.slot.0, c.requires.slot.1 ∙ ap (λ (l : List (ℕ × Option g.row.D.Denot)). (0, Some c.requires.slot.0) ∷ rest l) (sym c.requires.slot.1)))
