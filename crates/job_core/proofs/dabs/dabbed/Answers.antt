use Rattle.job_core.proofs.Values.{block_of}
use Rattle.job_core.proofs.Keys.{due_key, square_met}
use Rattle.job_core.proofs.DabValues.{square_lies, dab_painted}
use Rattle.job_core.proofs.dabs.dabbed.Goals as goal

pub part_in-part-requires-clause-key : goal.part_in-part-requires-clause-key
part_in-part-requires-clause-key c = due_key _ _ _ c.requires

pub part_in-part-requires-clause-met : goal.part_in-part-requires-clause-met
part_in-part-requires-clause-met c = square_met _ _ _ c.square.result _ c.square.ensures c.requires.met

pub brushed-requires-clause-key : goal.brushed-requires-clause-key
brushed-requires-clause-key c = due_key _ _ _ c.requires

pub brushed-requires-clause-in_world : goal.brushed-requires-clause-in_world
brushed-requires-clause-in_world c = square_lies c.args.brush.now c.args.ink.now c.requires.checked

pub from_pixels-requires-clause-key : goal.from_pixels-requires-clause-key
from_pixels-requires-clause-key c = due_key _ _ _ c.requires

pub returns : goal.returns
returns c = dab_painted c.args.brush.now c.args.ink.now _ _ c.square.result c.part_in-part.result c.from_pixels.result c.square.ensures c.requires c.part_in-part.ensures
    (block_of _ _ _ _ c.from_pixels.result c.from_pixels.ensures c.in_ok-pixels.ensures.has)
