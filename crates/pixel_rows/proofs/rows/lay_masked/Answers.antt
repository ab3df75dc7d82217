use Rattle.std.proofs.Common.{◌*◌, ◌+◌, ◌-◌, arith, get_or}
use Rattle.pixel_rows.proofs.Joins.{block_laid}
use Rattle.pixel_rows.proofs.rows.lay_masked.Goals as goal

pub loop-i-preserved : goal.loop-i-preserved
loop-i-preserved c =
    let at = 16 * c.loop-i.i in
    block_laid c.args.op (λ _. c.args.colour) (λ k. get_or c.args.mask.now k 0) at (at + 16 - at) (16 * (c.loop-i.i + 1)) c.masked_block-block.result c.args.backdrop.now c.loop-i.backdrop c.lay_bounded.new.row
    (omega arith) (omega arith) (omega arith) (omega arith) c.masked_block-block.ensures c.loop-i.invariant c.lay_bounded.ensures
