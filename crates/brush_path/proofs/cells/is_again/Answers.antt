use Rattle.std.proofs.Common.{sym, ap, ◌∙◌, Some}
use Rattle.brush_path.proofs.Squares.{same_ends}
use Rattle.brush_path.proofs.cells.is_again.Goals as goal

pub returns-in-Some : goal.returns-in-Some
returns-in-Some c = λ h. c.in-Some.is ∙ ap Some (same_ends c.in-Some.earlier c.args.ends (sym c.eq.ensures ∙ h))
