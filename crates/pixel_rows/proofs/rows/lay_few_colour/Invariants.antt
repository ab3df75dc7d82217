use Rattle.pixel_rows.specs.Rows.{LaysPart}
use Rattle.pixel_rows.proofs.rows.lay_few_colour.Given as goal

-- the pixels so far are laid on
abbrev pub invariant-loop-i : goal.invariant-loop-i
invariant-loop-i l = LaysPart l.op (λ _. l.colour) (λ _. l.strength) l.start l.i l.initial.backdrop l.backdrop
