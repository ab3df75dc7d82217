use Rattle.std.proofs.Common.{arith}
use Rattle.geom_core.specs.Grid.{keys_of}
use Rattle.frame_core.proofs.DamagedParts.{none_added, one_added, all_added}
use Rattle.frame_core.proofs.damage.Damage.add.Goals as goal

pub loop-i-init : goal.loop-i-init
loop-i-init c = none_added c.args.rect.now (keys_of c.args.rect.now) c.args.self.now

pub loop-i-preserved : goal.loop-i-preserved
loop-i-preserved c = one_added c.args.rect.now (keys_of c.args.rect.now) c.loop-i.i c.tile_at.result c.args.self.now c.loop-i.self c.add_in.new.self c.tile_at.ensures.value c.loop-i.invariant c.add_in.ensures

pub returns : goal.returns
returns c = all_added c.args.rect.now c.loop-i.i c.args.self.now c.loop-i.self (omega (arith, c.tile_count-i-end.ensures.value, c.loop-i-test.false)) c.loop-i.invariant
