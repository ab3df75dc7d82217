use Rattle.std.proofs.Common.{◌+◌, arith}
use Rattle.pixel_rows.proofs.Wholes.{whole_is, bits_number}
use Rattle.pixel_rows.proofs.quotient.whole.Goals as goal

-- src/lib.rt:18:5
pub float_from_bits-result : goal.float_from_bits-result
float_from_bits-result c = bits_number (1258291200 + c.args.n) (omega (arith, c.requires))

-- src/lib.rt:13:1
pub returns : goal.returns
returns c = whole_is c.args.n c.requires
