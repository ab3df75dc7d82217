use Rattle.std.proofs.Common.{◌*◌, ◌+◌, ◌-◌, arith}
use Rattle.pixel_rows.proofs.Joins.{block_laid}
use Rattle.pixel_rows.proofs.rows.lay_colour_blocks.Goals as goal

pub loop-i-preserved : goal.loop-i-preserved
loop-i-preserved c =
    let at = 16 * c.loop-i.i in
    block_laid c.args.op (λ _. c.args.colour) (λ _. c.args.strength) at (at + 16 - at) (16 * (c.loop-i.i + 1)) c.dimmed_all-block.result c.args.backdrop.now c.loop-i.backdrop c.lay_bounded.new.row
    (omega arith) (omega arith) (omega arith) (omega arith) c.dimmed_all-block.ensures c.loop-i.invariant c.lay_bounded.ensures
