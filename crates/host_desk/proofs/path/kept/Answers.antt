use Rattle.std.proofs.Common.{◌∙◌, arith}
use Rattle.std.proofs.lemmas.List.{length-set}
use Rattle.host_desk.proofs.KeptPoints.{kept_more, short_at}
use Rattle.host_desk.proofs.path.kept.Goals as goal

pub pair_of-requires : goal.pair_of-requires
pair_of-requires c = short_at c.args.points.now c.loop-i.i _ c.requires.short (omega (arith, c.loop-i-test.true))

pub loop-i-preserved : goal.loop-i-preserved
loop-i-preserved c = (
  kept_more c.args.points.now c.loop-i.kept c.loop-i.i _ c.pair_of.result (omega (arith, c.loop-i-test.true)) (omega (arith, c.requires.few, c.loop-i-test.true, c.loop-i.invariant.1)) c.pair_of.ensures c.loop-i.invariant.0,
  length-set c.loop-i.kept c.loop-i.i c.pair_of.result ∙ c.loop-i.invariant.1,
)
