use Rattle.std.proofs.Common.{arith, ◌+◌}
use Rattle.tile_core.proofs.LaidRows.{next_fits}
use Rattle.job_core.proofs.RowLaws.{rows_next}
use Rattle.job_core.proofs.rows.lay_rows.Goals as goal

pub loop-row-preserved : goal.loop-row-preserved
loop-row-preserved c = rw c.put_row.ensures (rows_next _ _ _ _ _ _ _ _ _ _ c.loop-row.invariant c.requires.across
    (omega (arith, next_fits (c.args.part.top + c.loop-row._row) (c.args.part.top + c.args.part.h) c.args.width (omega arith)))
    (omega (arith, next_fits c.loop-row._row c.args.part.h c.args.part.w (omega arith))))
