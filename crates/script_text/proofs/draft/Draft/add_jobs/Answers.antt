use Rattle.std.proofs.Common.{◌≡◌, ◌++◌, ◌∷◌, [], ◌∙◌, Err, None, rules, ap, sym, subst}
use Rattle.std.specs.Prelude.{Result, Option}
use Rattle.doc_model.specs.declared.command.Command.TheVariants as command
use Rattle.doc_model.specs.declared.job.Kind.TheVariants.{Con}
use Rattle.script_lines.specs.declared.cause.Cause.{Cause}
use Rattle.script_text.specs.declared.script.ReadRefusal.{ReadRefusal}
use Rattle.script_text.specs.Read.{IsRefused}
use Rattle.script_text.proofs.PathLines.{job_added, next_fits}
use Rattle.script_text.proofs.draft.Draft.add_jobs.Goals as goal

pub returns-in_err-add-clause-refused : goal.returns-in_err-add-clause-refused
returns-in_err-add-clause-refused c =
    let e : c.from_residual.result ≡ Err c.in_err-add.field-0.0 = search rules in
    let none = next_fits c.args.self.now c.loop-job.self c.args.no c.args.jobs.now c.loop-job.job-index c.job-item.result c.loop-job-test.true c.loop-job.invariant in
    subst (λ (r : Result (Unit {0}) ReadRefusal). IsRefused r c.args.line None) (sym e)
    (subst (λ (o : Option Cause). IsRefused {A = Unit {0}} (Err c.in_err-add.field-0.0) c.args.line o) none c.in_err-add.ensures.refused)

pub loop-job-preserved : goal.loop-job-preserved
loop-job-preserved c = job_added c.args.self.now c.loop-job.self c.add.new.self c.args.no c.args.jobs.now c.loop-job.job-index c.job-item.result c.loop-job-test.true
    (c.in_ok-add.ensures.added ∙ ap (λ j. c.loop-job.self ++ command.Add c.args.no Con j ∷ []) c.job-item.is) c.loop-job.invariant
