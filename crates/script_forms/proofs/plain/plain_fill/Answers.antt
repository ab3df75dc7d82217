use Rattle.std.proofs.Common.{◌≡◌, rules, Ok}
use Rattle.doc_model.specs.declared.job.Job.TheVariants.{Fill}
use Rattle.script_forms.specs.Jobs.{area_of, checked}
use Rattle.script_forms.proofs.PlainLines.{fill_line}
use Rattle.script_forms.proofs.plain.plain_fill.Goals as goal

pub returns-clause-line : goal.returns-clause-line
returns-clause-line c =
    let is : checked (Fill (area_of c.in_ok-outline.outline) c.in-Some.ink.colour c.in-Some.ink.op c.in-Some.ink.strength) ≡ Ok c.in_ok-job.job = search rules in
    fill_line c.args.text.now c.in_ok-no.text.now c.in_ok-kind.text.now c.in_ok-outline.text.now c.in-Some.behind.now c.in_ok-no.no c.in_ok-kind.kind c.in_ok-outline.outline c.in-Some.ink c.in_ok-job.job c.in_ok-no.ensures.natural c.in_ok-kind.ensures c.in_ok-outline.ensures.outline c.in-Some.ensures.line is
