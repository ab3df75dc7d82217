use Rattle.crew_run.proofs.Roots.{fed_root}
use Rattle.crew_run.proofs.feeding.feed_next.Goals as goal

pub returns-clause-root : goal.returns-clause-root
returns-clause-root g c = fed_root c.feed.result _ _ c.command.result.now c.feed.ensures.ok c.feed.ensures.err
