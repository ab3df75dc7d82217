use Rattle.std.proofs.Common.{◌+◌, ◌-◌, ◌*◌}
use Rattle.ppm_out.proofs.rows.+halves.Given as goal

-- so many threads may still be halved
abbrev pub decreases-lay_rows : goal.decreases-lay_rows
decreases-lay_rows g l = 3 * l.threads

abbrev pub decreases-lay_both : goal.decreases-lay_both
decreases-lay_both g l = 3 * l.threads - 1

abbrev pub decreases-lay_both-join_mut+arg2 : goal.decreases-lay_both-join_mut+arg2
decreases-lay_both-join_mut+arg2 g l = 3 * l.some + 1

abbrev pub decreases-lay_both-join_mut+arg3 : goal.decreases-lay_both-join_mut+arg3
decreases-lay_both-join_mut+arg3 g l = 3 * l.others + 1
