use Rattle.std.proofs.Common.{arith, ◌+◌}
use Rattle.tile_core.proofs.LaidRows.{tile_next, next_fits}
use Rattle.tile_core.proofs.rows.lay_tile_rows.Goals as goal

pub loop-row-preserved : goal.loop-row-preserved
loop-row-preserved c = rw c.put_row.ensures (tile_next _ _ _ _ _ _ _ _ _ _ _ _ c.loop-row.invariant c.requires.across
    (omega (arith, next_fits (c.args.part.top + c.loop-row._row) (c.args.part.top + c.args.part.h) c.args.width (omega arith))) (omega arith))
