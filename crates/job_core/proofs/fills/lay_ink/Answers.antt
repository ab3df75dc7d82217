use Rattle.std.proofs.Common.{arith}
use Rattle.job_core.specs.Laid.{inked}
use Rattle.job_core.proofs.RowChanges.{row_changed, slice_changed}
use Rattle.job_core.proofs.fills.lay_ink.Goals as goal

pub loop-row-preserved : goal.loop-row-preserved
loop-row-preserved c = row_changed (inked c.args.ink.now) _ _ _ _ _ _ _ _ _ c.loop-row.invariant c.requires.across
    (slice_changed (λ i. inked c.args.ink.now i c.loop-row._row) _ c.lay_colour.new.backdrop _ _ _ (omega arith) (omega arith) (omega arith) (λ i h. c.lay_colour.ensures i (omega arith)))
