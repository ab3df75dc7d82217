use Rattle.host_desk.proofs.FedLines.{fed_line}
use Rattle.host_desk.proofs.feeding.feed_line.Goals as goal

pub returns-in-Ok : goal.returns-in-Ok
returns-in-Ok c = fed_line c.args.desk.now c.feed_told.new.desk c.feed_told.result c.args.text.now c.in-Ok.line c.in-Ok.ensures.value c.feed_told.ensures
