use Rattle.std.proofs.Common.{get_or, ◌*◌}
use Rattle.pixel_core.specs.Rgba.{clear}
use Rattle.pixel_rows.specs.Rows.{LaysPart}
use Rattle.pixel_rows.proofs.each.compose_row.Given as goal

-- the blocks so far are laid on
abbrev pub invariant-loop-i : goal.invariant-loop-i
invariant-loop-i l = LaysPart l.op (λ k. get_or l.src k clear) (λ k. get_or l.strength k 0) 0 (16 * l.i) l.initial.dst l.dst
