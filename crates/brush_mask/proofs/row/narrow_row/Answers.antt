use Rattle.std.proofs.Common.{arith, ap, ◌∙◌, ◌*◌, ◌/◌, pos, to_z, of_z, w16}
use Rattle.std.specs.Prelude.{◌+ℤ◌}
use borrow.Author.Differences.{ints}
use Rattle.brush_mask.specs.Rows.{spare}
use Rattle.brush_mask.proofs.MaskRows.{row_next}
use Rattle.brush_mask.proofs.row.narrow_row.Goals as goal

pub loop-i-preserved : goal.loop-i-preserved
loop-i-preserved c = row_next (λ x. 255 * spare c.args.room x / c.args.fall.whole) _ (to_z w16 (of_z w16 c.args.dx)) c.loop-i.row c.loop-i.i c.narrow_at.result
    (c.narrow_at.ensures ∙ ap (λ n. 255 * n / c.args.fall.whole) c.spare_at.ensures.value) (omega (arith, ints)) (omega arith) c.loop-i.invariant

pub returns : goal.returns
returns c = λ k small. c.loop-i.invariant k (omega arith) ∙ ap (λ z. 255 * spare c.args.room (z +ℤ pos k) / c.args.fall.whole) (omega (arith, ints))
