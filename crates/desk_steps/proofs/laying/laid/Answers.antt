use Rattle.std.proofs.Common.{◌≡◌, length, arith}
use Rattle.desk_steps.proofs.Lain.{none_laid, one_laid, all_laid}
use Rattle.desk_steps.proofs.laying.laid.Goals as goal

pub loop-i-init : goal.loop-i-init
loop-i-init c = none_laid c.args.made.now c.args.device.now c.in_ok-tile.tile c.key-key.result c.key-key.ensures.value c.in_ok-tile.ensures

pub loop-i-preserved : goal.loop-i-preserved
loop-i-preserved c = one_laid c.args.made.now c.args.device.now c.loop-i.tile c.in_ok-tile-2.tile c.loop-i.i c.block.result.now c.block.ensures c.in_ok-tile-2.ensures c.loop-i.invariant

pub returns : goal.returns
returns c =
    let all : c.loop-i.i ≡ length c.args.made.now.blocks = omega (arith, c.loop-i-test.false, c.loop-i.auto.i-end, c.block_count-i-end.ensures.value) in
    all_laid c.args.made.now c.args.device.now c.loop-i.tile c.loop-i.i all c.loop-i.invariant
