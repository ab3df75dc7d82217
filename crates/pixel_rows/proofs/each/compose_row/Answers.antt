use Rattle.std.proofs.Common.{◌*◌, ◌+◌, ◌-◌, arith, get_or}
use Rattle.pixel_core.specs.Rgba.{clear}
use Rattle.pixel_rows.proofs.Joins.{block_laid}
use Rattle.pixel_rows.proofs.each.compose_row.Goals as goal

pub loop-i-preserved : goal.loop-i-preserved
loop-i-preserved c =
    let at = 16 * c.loop-i.i in
    block_laid c.args.op (λ k. get_or c.args.src.now k clear) (λ k. get_or c.args.strength.now k 0) at (at + 16 - at) (16 * (c.loop-i.i + 1)) c.dimmed_each-block.result c.args.dst.now c.loop-i.dst c.lay_block.new.row
    (omega arith) (omega arith) (omega arith) (omega arith) c.dimmed_each-block.ensures c.loop-i.invariant c.lay_block.ensures
