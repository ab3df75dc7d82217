use Rattle.host_desk.proofs.FedScripts.{script_more}
use Rattle.host_desk.proofs.opening.feed_script.Goals as goal

pub loop-i-preserved : goal.loop-i-preserved
loop-i-preserved c = script_more c.args.desk.now c.loop-i.desk c.feed.new.self c.args.script.now.commands c.loop-i.i c.command.result.now c.command.ensures c.in_ok-feed.ensures.ok c.loop-i.invariant
