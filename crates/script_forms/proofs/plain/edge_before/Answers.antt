use Rattle.std.proofs.Common.{refl, codes}
use Rattle.std.proofs.Common.{true, false}
use Rattle.script_forms.specs.Jobs.{edge_of}
use Rattle.script_forms.proofs.PlainLines.{word_first}
use Rattle.script_forms.proofs.plain.edge_before.Goals as goal

pub returns-in-Some : goal.returns-in-Some
unfolding edge_of
returns-in-Some c = word_first edge_of false (codes "hard") c.args.text.now c.in-Some.behind.now refl refl c.in-Some.ensures

pub returns : goal.returns
unfolding edge_of
returns c = word_first edge_of true (codes "soft") c.args.text.now c.in_ok-behind.behind.now refl refl c.in_ok-behind.ensures
