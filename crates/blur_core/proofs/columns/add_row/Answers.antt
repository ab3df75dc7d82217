use Rattle.std.proofs.Common.{arith}
use Rattle.blur_core.proofs.Summing.{up_to_more}
use Rattle.blur_core.proofs.columns.add_row.Goals as goal

pub plus-requires-clause-other_small : goal.plus-requires-clause-other_small
plus-requires-clause-other_small c = up_to_more 1 1089 c.of.result (omega arith) c.of.ensures.small
