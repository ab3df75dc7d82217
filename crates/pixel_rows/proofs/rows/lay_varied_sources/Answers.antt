use Rattle.std.proofs.Common.{◌*◌, ◌+◌, ◌-◌, arith, get_or}
use Rattle.pixel_core.specs.Rgba.{clear}
use Rattle.pixel_rows.proofs.Joins.{block_laid}
use Rattle.pixel_rows.proofs.rows.lay_varied_sources.Goals as goal

pub loop-i-preserved : goal.loop-i-preserved
loop-i-preserved c =
    let at = 16 * c.loop-i.i in
    block_laid c.args.op (λ k. get_or c.args.sources.now k clear) (λ _. c.args.opacity) at (at + 16 - at) (16 * (c.loop-i.i + 1)) c.dimmed_block-block.result c.args.backdrop.now c.loop-i.backdrop c.lay_block.new.row
    (omega arith) (omega arith) (omega arith) (omega arith) c.dimmed_block-block.ensures c.loop-i.invariant c.lay_block.ensures
