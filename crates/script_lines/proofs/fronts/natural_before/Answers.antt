use Rattle.script_lines.proofs.FieldLemmas.{natural_first}
use Rattle.script_lines.proofs.fronts.natural_before.Goals as goal

pub returns-then-n-high-clause-natural : goal.returns-then-n-high-clause-natural
returns-then-n-high-clause-natural c = natural_first c.args.low c.args.high c.args.mark c.in_ok-n.n c.args.text.now c.in_ok-n.behind.now c.in_ok-n.ensures.number c.if-low-n.true c.if-n-high.true
