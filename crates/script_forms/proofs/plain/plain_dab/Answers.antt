use Rattle.std.proofs.Common.{◌≡◌, rules, Ok}
use Rattle.doc_model.specs.declared.job.Job.TheVariants.{Dab}
use Rattle.script_forms.specs.Jobs.{checked}
use Rattle.script_forms.proofs.PlainLines.{dab_line}
use Rattle.script_forms.proofs.plain.plain_dab.Goals as goal

pub returns-clause-line : goal.returns-clause-line
returns-clause-line c =
    let is : checked (Dab c.in_ok-tip.tip.x c.in_ok-tip.tip.y c.in_ok-tip.tip.r c.in_ok-tip.tip.soft c.in-Some.ink.colour c.in-Some.ink.op c.in-Some.ink.strength) ≡ Ok c.in_ok-job.job = search rules in
    dab_line c.args.text.now c.in_ok-no.text.now c.in_ok-kind.text.now c.in_ok-tip.text.now c.in-Some.behind.now c.in_ok-no.no c.in_ok-kind.kind c.in_ok-tip.tip c.in-Some.ink c.in_ok-job.job c.in_ok-no.ensures.natural c.in_ok-kind.ensures c.in_ok-tip.ensures.tip c.in-Some.ensures.line is
