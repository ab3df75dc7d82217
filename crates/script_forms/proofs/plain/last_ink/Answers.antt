use Rattle.std.proofs.Common.{rules, subst}
use Rattle.script_forms.specs.Jobs.{op_of}
use Rattle.script_forms.specs.Plain.{IsInkLine}
use Rattle.script_lines.specs.Fronts.{Begins}
use Rattle.script_forms.proofs.PlainLines.{ink_last}
use Rattle.script_forms.proofs.plain.last_ink.Goals as goal

pub returns-clause-line : goal.returns-clause-line
returns-clause-line c =
    let op : Begins op_of 32 c.in-Some.text.now c.in_ok-op.op c.in_ok-op.text.now = search rules in
    subst (λ p. IsInkLine c.args.text.now (record { colour = p; op = c.in_ok-op.op; strength = c.in_ok-strength.strength }) c.in_ok-strength.behind.now) (search rules)
    (ink_last c.args.text.now c.in-Some.text.now c.in_ok-op.text.now c.in_ok-strength.behind.now (record { colour = c.in-Some.colour; op = c.in_ok-op.op; strength = c.in_ok-strength.strength }) c.in-Some.ensures.colour op c.in_ok-strength.ensures.natural)
