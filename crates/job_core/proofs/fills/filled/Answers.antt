use Rattle.job_core.proofs.Values.{some_of_limits, one_met, block_of}
use Rattle.job_core.proofs.Keys.{due_key}
use Rattle.job_core.proofs.FillValues.{fill_painted}
use Rattle.job_core.proofs.fills.filled.Goals as goal

pub part_in-part-requires-clause-key : goal.part_in-part-requires-clause-key
part_in-part-requires-clause-key c = due_key _ _ _ c.requires

pub part_in-part-requires-clause-met : goal.part_in-part-requires-clause-met
part_in-part-requires-clause-met c = one_met c.args.rect.now c.args.key (some_of_limits c.args.rect.now c.requires.limits) c.requires.met

pub inked-requires-clause-key : goal.inked-requires-clause-key
inked-requires-clause-key c = due_key _ _ _ c.requires

pub from_pixels-requires-clause-key : goal.from_pixels-requires-clause-key
from_pixels-requires-clause-key c = due_key _ _ _ c.requires

pub returns : goal.returns
returns c = fill_painted _ _ _ _ _ c.from_pixels.result c.requires c.part_in-part.ensures
    (block_of _ _ _ _ c.from_pixels.result c.from_pixels.ensures c.in_ok-pixels.ensures.has)
