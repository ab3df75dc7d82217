use Rattle.std.proofs.Common.{arith, pos, ap, ◌∙◌, to_z, of_z, w16}
use Rattle.std.specs.Prelude.{◌+ℤ◌}
use borrow.Author.Differences.{ints}
use Rattle.brush_mask.specs.Rows.{full}
use Rattle.brush_mask.proofs.MaskRows.{row_next}
use Rattle.brush_mask.proofs.row.hard_row.Goals as goal

pub loop-i-preserved : goal.loop-i-preserved
loop-i-preserved c = row_next (full c.args.room) _ (to_z w16 (of_z w16 c.args.dx)) c.loop-i.row c.loop-i.i c.full_at.result c.full_at.ensures (omega (arith, ints)) (omega arith) c.loop-i.invariant

pub returns : goal.returns
returns c = λ k small. c.loop-i.invariant k (omega arith) ∙ ap (λ z. full c.args.room (z +ℤ pos k)) (omega (arith, ints))
