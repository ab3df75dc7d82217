use Rattle.std.proofs.Common.{arith}
use Rattle.tile_core.proofs.LaidRows.{lays_next, next_fits}
use Rattle.tile_core.proofs.rows.lay_part.Goals as goal

pub loop-row-preserved : goal.loop-row-preserved
loop-row-preserved c = rw c.put_row.ensures (lays_next _ _ _ _ _ _ _ _ _ c.loop-row.invariant c.requires.across (omega arith) (omega (arith, next_fits c.loop-row._row c.args.part.h c.args.part.w (omega arith))))
