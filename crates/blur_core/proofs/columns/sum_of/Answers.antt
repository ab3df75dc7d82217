use Rattle.std.proofs.Common.{sym, ap, ◌∙◌, arith, get_or}
use Rattle.blur_core.specs.Sums.{nothing, plus}
use Rattle.blur_core.proofs.Summing.{sum_from-zero, sum_from_more}
use Rattle.blur_core.proofs.ColumnSums.{few_columns}
use Rattle.blur_core.proofs.columns.sum_of.Goals as goal

pub loop-i-init : goal.loop-i-init
loop-i-init c = sym (sum_from-zero (λ k. get_or c.args.columns.now k nothing) 0)

pub plus-all-requires-clause-small : goal.plus-all-requires-clause-small
plus-all-requires-clause-small c = few_columns c.args.columns.now 33 0 c.loop-i.i c.loop-i.all c.requires.each c.loop-i.invariant (omega arith) (omega arith)

pub loop-i-preserved : goal.loop-i-preserved
loop-i-preserved c = c.plus-all.ensures ∙ ap (λ s. plus s (get_or c.args.columns.now c.loop-i.i nothing)) c.loop-i.invariant ∙ sym (sum_from_more (λ k. get_or c.args.columns.now k nothing) 0 c.loop-i.i c.loop-i.i (omega arith))
