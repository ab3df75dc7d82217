use Rattle.std.proofs.Common.{◌*◌}
use Rattle.pixel_rows.specs.Rows.{LaysPart}
use Rattle.pixel_rows.proofs.rows.lay_colour_blocks.Given as goal

-- the blocks so far are laid on
abbrev pub invariant-loop-i : goal.invariant-loop-i
invariant-loop-i l = LaysPart l.op (λ _. l.fn.colour) (λ _. l.fn.strength) 0 (16 * l.i) l.initial.backdrop l.backdrop
