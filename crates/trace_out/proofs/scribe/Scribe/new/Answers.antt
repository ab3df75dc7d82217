use Rattle.trace_out.proofs.Beginning.{new_tied}
use Rattle.trace_out.proofs.scribe.Scribe.new.Goals as goal

pub returns-clause-tied : goal.returns-clause-tied
returns-clause-tied c = new_tied c.args.canvas c.args.slots c.in_ok-held.held c.in_ok-desk.desk c.requires.canvas c.requires.some c.requires.few c.in_ok-held.ensures c.in_ok-desk.ensures
