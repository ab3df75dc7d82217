use Rattle.std.proofs.Common.{arith}
use Rattle.std.proofs.lemmas.List.{take_all}
use Rattle.pixel_rows.proofs.block.alphas_of_block.Goals as goal

pub returns : goal.returns
returns c = rw (take_all 16 c.args.block.now (omega arith)) at c.alphas_of.ensures
