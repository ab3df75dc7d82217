use Rattle.std.proofs.Common.{◌∙◌}
use Rattle.desk_state.proofs.Meeting.{written_some, any_met}
use Rattle.slot_work.proofs.painting.writes_in.Goals as goal

pub returns : goal.returns
returns c = c.meets_writes.ensures ∙ any_met _ c.args.key (written_some c.args.job.now c.requires.limits)
