use Rattle.geom_core.proofs.Tests.{and_left}
use Rattle.job_core.proofs.Values.{some_of_limits, one_met}
use Rattle.job_core.proofs.Keys.{due_key}
use Rattle.job_core.proofs.BlurValues.{blur_around, blur_result}
use Rattle.job_core.proofs.blurs.blurred.Goals as goal

pub part_in-part-requires-clause-key : goal.part_in-part-requires-clause-key
part_in-part-requires-clause-key c = due_key _ _ _ c.requires

pub part_in-part-requires-clause-met : goal.part_in-part-requires-clause-met
part_in-part-requires-clause-met c = one_met c.args.rect.now c.args.key (some_of_limits c.args.rect.now (and_left _ _ c.requires.limits)) c.requires.met

pub blur_block-requires-clause-key : goal.blur_block-requires-clause-key
blur_block-requires-clause-key c = due_key _ _ _ c.requires

pub blur_block-requires-clause-in_world : goal.blur_block-requires-clause-in_world
blur_block-requires-clause-in_world c = blur_around _ _ _ _ c.part_in-part.result c.part_in-part.ensures.in_a c.requires

pub returns : goal.returns
returns c = blur_result _ _ _ _ c.part_in-part.result c.blur_block.result c.requires c.part_in-part.ensures c.blur_block.ensures.key c.blur_block.ensures.rect c.blur_block.ensures.pixels
