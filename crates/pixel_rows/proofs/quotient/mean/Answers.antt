use Rattle.std.proofs.Common.{◌∙◌}
use Rattle.std.proofs.lemmas.Nat.{and_mask}
use Rattle.pixel_rows.proofs.Means.{told}
use Rattle.pixel_rows.proofs.Quotients.{number}
use Rattle.pixel_rows.proofs.quotient.mean.Goals as goal

-- src/lib.rt:33:7
pub float_to_bits-result : goal.float_to_bits-result
float_to_bits-result c = number _ (told c.args.source c.args.s c.args.backdrop c.args.d c.args.sum c.ranges.s.fits c.ranges.d.fits c.requires.divisor c.requires.small c.requires.parts _ _ _ _ _ _ c.whole-4.ensures c.whole-5.ensures c.whole.ensures c.whole-2.ensures c.whole-3.ensures c.whole-6.ensures).0

-- src/lib.rt:24:1
pub returns : goal.returns
returns c = and_mask _ 8 ∙ (told c.args.source c.args.s c.args.backdrop c.args.d c.args.sum c.ranges.s.fits c.ranges.d.fits c.requires.divisor c.requires.small c.requires.parts _ _ _ _ _ _ c.whole-4.ensures c.whole-5.ensures c.whole.ensures c.whole-2.ensures c.whole-3.ensures c.whole-6.ensures).1
