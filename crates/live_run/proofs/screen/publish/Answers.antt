use Rattle.live_run.proofs.Owing.{publish_keeps, same_total}
use Rattle.live_run.proofs.screen.publish.Goals as goal

pub returns : goal.returns
returns g c =
    let keeps = publish_keeps c.publish.result c.args.live.now c.publish.new.self c.publish.ensures.published c.publish.ensures.pending c.publish.ensures.err in
    record {
      updates = keeps.0;
      few = same_total c.args.live.now c.publish.new.self keeps.0;
      goes_on = keeps.1;
      pending = c.publish.ensures.pending;
    }
