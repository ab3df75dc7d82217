use Rattle.compose_core.specs.Laid.{LaysChild}
use Rattle.compose_core.proofs.children.lay_child.Given as goal

-- the rows so far are laid
abbrev pub invariant-loop-row : goal.invariant-loop-row
invariant-loop-row l = LaysChild l.part.left l.part.top l.part.w l.row l.look l.given l.initial.pixels l.pixels
