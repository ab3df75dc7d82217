use Rattle.walker_core.proofs.RowLists.{keys_more, rows_more}
use Rattle.walker_core.proofs.rows.Rows.compose_on.Goals as goal

pub returns-clause-ok : goal.returns-clause-ok
returns-clause-ok c = keys_more c.args.self.now.rows.items c.push.new.self.items c.in_ok-row.row c.args.key c.in_ok-push.ensures.items c.in_ok-row.ensures.key

pub returns-clause-of : goal.returns-clause-of
returns-clause-of c = rows_more c.args.inputs.now c.args.self.now.rows.items c.push.new.self.items c.in_ok-row.row c.in_ok-push.ensures.items c.requires.of c.in_ok-row.ensures.of
