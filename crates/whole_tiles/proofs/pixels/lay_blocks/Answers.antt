use Rattle.std.proofs.Common.{◌≡◌, length, arith}
use Rattle.whole_tiles.proofs.News.{one_laid, all_laid}
use Rattle.whole_tiles.proofs.pixels.lay_blocks.Goals as goal

pub loop-i-preserved : goal.loop-i-preserved
loop-i-preserved c = one_laid c.args.painted.now c.args.tile.now c.loop-i.tile c.lay.new.tile c.loop-i.i c.block.result.now c.key-key.ensures.known c.block.ensures c.lay.ensures c.loop-i.invariant

pub returns : goal.returns
returns c =
    let all : c.loop-i.i ≡ length c.args.painted.now.blocks = omega (arith, c.loop-i-test.false, c.loop-i.auto.i-end, c.block_count-i-end.ensures.value) in
    all_laid c.args.painted.now c.args.tile.now c.loop-i.tile c.loop-i.i c.key-key.ensures.known all c.loop-i.invariant
