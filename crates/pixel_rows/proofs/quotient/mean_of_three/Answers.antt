use Rattle.std.proofs.Common.{◌∙◌}
use Rattle.std.proofs.lemmas.Nat.{and_mask}
use Rattle.pixel_rows.proofs.Means.{told_three}
use Rattle.pixel_rows.proofs.Quotients.{number}
use Rattle.pixel_rows.proofs.quotient.mean_of_three.Goals as goal

pub float_to_bits-result : goal.float_to_bits-result
float_to_bits-result c = number _ (told_three c.args.source c.args.s c.args.backdrop c.args.d c.args.both c.args.f c.args.sum c.ranges.s.fits c.ranges.d.fits c.ranges.f.fits c.requires.divisor c.requires.small c.requires.parts _ _ _ _ _ _ _ _ c.whole-4.ensures c.whole-5.ensures c.whole.ensures c.whole-2.ensures c.whole-3.ensures c.whole-6.ensures c.whole-7.ensures c.whole-8.ensures).0

pub returns : goal.returns
returns c = and_mask _ 8 ∙ (told_three c.args.source c.args.s c.args.backdrop c.args.d c.args.both c.args.f c.args.sum c.ranges.s.fits c.ranges.d.fits c.ranges.f.fits c.requires.divisor c.requires.small c.requires.parts _ _ _ _ _ _ _ _ c.whole-4.ensures c.whole-5.ensures c.whole.ensures c.whole-2.ensures c.whole-3.ensures c.whole-6.ensures c.whole-7.ensures c.whole-8.ensures).1
