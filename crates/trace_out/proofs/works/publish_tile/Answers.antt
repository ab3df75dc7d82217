use Rattle.std.proofs.Common.{Ok, ap, ◌∙◌, subst}
use Rattle.geom_core.specs.Keys.{IsWorldKey}
use Rattle.machine_model.specs.Event.{Publish}
use Rattle.machine_model.specs.Step.{Step}
use Rattle.whole_tiles.proofs.Seen.{own_seen}
use Rattle.trace_out.proofs.Enabling.{job_takes}
use Rattle.trace_out.proofs.works.publish_tile.Goals as goal

pub paint_tile-requires-clause-checked : goal.paint_tile-requires-clause-checked
paint_tile-requires-clause-checked c = c.requires.kept.2

pub paint_tile-requires-clause-limits : goal.paint_tile-requires-clause-limits
paint_tile-requires-clause-limits c = c.requires.kept.3

pub paint_tile-requires-clause-seen : goal.paint_tile-requires-clause-seen
paint_tile-requires-clause-seen c = own_seen _ _ c.requires.kept.1

pub paint_tile-requires-clause-met : goal.paint_tile-requires-clause-met
paint_tile-requires-clause-met c = c.requires.lacks.in_job

pub unreachable-requires : goal.unreachable-requires
unreachable-requires c = c.publish.ensures.refused (c.in_ok-publish.was ∙ ap Ok c.in-Nothing.is)
    (job_takes c.args.desk.now c.args.place c.args.painter.now c.args.key c.in_ok-painted.painted c.requires.runs c.requires.kept.1 c.requires.lacks c.in_ok-painted.ensures.job c.in_ok-painted.ensures.shot c.in_ok-painted.ensures.key)

pub returns-clause-step : goal.returns-clause-step
returns-clause-step c = subst (λ k. Step c.args.desk.now (Publish c.args.place k) c.publish.new.self) c.in_ok-painted.ensures.key (c.publish.ensures.stored (c.in_ok-publish.was ∙ ap Ok c.in-Stored.is))

pub returns-clause-world : goal.returns-clause-world
returns-clause-world c = subst IsWorldKey c.in_ok-painted.ensures.key c.key-known.ensures.known.key_is
