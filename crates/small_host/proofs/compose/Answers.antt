use Rattle.desk_state.proofs.SettlingRuns.{settles_then}
use Rattle.small_host.proofs.Bringing.{end_settles}
use Rattle.small_host.proofs.compose.Goals as goal

pub loop-i-preserved : goal.loop-i-preserved
loop-i-preserved c = settles_then c.loop-i.invariant c.publish_row.ensures.runs

pub returns-in_err-publish_row : goal.returns-in_err-publish_row
returns-in_err-publish_row c = settles_then c.loop-i.invariant c.publish_row.ensures.runs

pub returns : goal.returns
returns c = settles_then c.loop-i.invariant (end_settles c.loop-i.desk c.end.new.self c.args.ticket.now.slot.place c.end.result c.end.ensures.done c.end.ensures.nothing)
