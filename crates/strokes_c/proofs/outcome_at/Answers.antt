use Rattle.std.proofs.Common.{rules}
use Rattle.strokes_c.proofs.outcome_at.Goals as goal

pub returns-in-Some : goal.returns-in-Some
returns-in-Some c = (c.in-Some.outcome, search rules, c.outcome_of.ensures)
