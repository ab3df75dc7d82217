use Rattle.std.proofs.Common.{◌∙◌}
use Rattle.whole_tiles.proofs.Hanging.{key_of_job, point_met, point_reads, point_enough}
use Rattle.whole_tiles.proofs.needs.needs_of.Goals as goal

pub part_in-requires-clause-key : goal.part_in-requires-clause-key
part_in-requires-clause-key c = key_of_job c.args.job.now c.args.key c.requires.checked c.requires.limits c.requires.met

pub part_in-requires-clause-met : goal.part_in-requires-clause-met
part_in-requires-clause-met c = point_met c.args.job.now c.in-Some.rect c.args.key c.in-Some.ensures.point_op c.in-Some.ensures.written c.requires.limits c.requires.met

pub returns-in-Some : goal.returns-in-Some
returns-in-Some c = point_enough c.args.job.now c.in-Some.rect c.part_in.result c.args.key c.in-Some.ensures.point_op c.in-Some.ensures.written (point_reads c.args.job.now c.in-Some.ensures.point_op ∙ c.in-Some.ensures.written) c.part_in.ensures
