use Rattle.std.proofs.Common.{sym}
use Rattle.desk_steps.proofs.store.Store.put.Goals as goal

pub returns-clause-ok : goal.returns-clause-ok
returns-clause-ok c = c.put_made.ensures.ok c.args.painted.now (record { painted = c.made.ensures.known; is = sym c.made.ensures.value })
