use Rattle.std.proofs.Common.{rules, ◌≡◌, ◌+◌, ◌∷◌, ◌++◌, ◌∙◌, List, sym, subst, Some, None, true, false, Result, Err}
use Rattle.std.specs.Prelude.{IsSome}
use Rattle.doc_model.specs.Strokes.{entries}
use Rattle.script_lines.specs.Lines.{lines, is_command}
use Rattle.script_lines.specs.Fronts.{pointed, lines_behind}
use Rattle.script_forms.specs.Jobs.{Fields}
use Rattle.script_forms.specs.Plain.{IsJobLine}
use Rattle.script_text.specs.Reading.{cause_by, misfit}
use Rattle.script_text.specs.Read.{IsRefused, Takes, TakesCommand, Fits}
use Rattle.script_text.specs.declared.pieces.Reader.{Reader}
use Rattle.script_text.specs.declared.script.ReadRefusal.{ReadRefusal}
use Rattle.script_text.proofs.PlainJobs.{job_fields, job_said, takes_job}
use Rattle.script_text.proofs.Scanning.{Going, taken, passed, refused, starts_match, numbered_next, some_line}
use Rattle.script_text.proofs.pieces.Reader.feed.Goals as goal

pub overflow_add-number : goal.overflow_add-number
overflow_add-number c =
    let rest = lines c.in-Some.rest.now in
    let ls = c.requires.0 in
    let going : Going (ls ++ lines c.args.text.now) c.loop-left.number c.loop-left.reading rest = subst (λ left. Going (ls ++ lines c.args.text.now) c.loop-left.number c.loop-left.reading (lines_behind left)) c.in-Some.is (c.loop-left.invariant.going ls c.requires.1) in
    let next = numbered_next ls (lines c.args.text.now) rest c.loop-left.number c.loop-left.reading going (some_line c.in-Some.rest.now) c.requires.2 in
    search (rules, next)

pub returns-in_err-add-clause-fault : goal.returns-in_err-add-clause-fault
returns-in_err-add-clause-fault c = λ ls more fault has told.
    let n = c.loop-left.number in
    let r = c.loop-left.reading in
    let text = c.in-Some.rest.now in
    let behind = c.in-Some-plain_job.behind.now in
    let command = c.in-Some-plain_job.command in
    let all = ls ++ lines c.args.text.now in
    let job : IsJobLine text command behind = search rules in
    let f = job_fields text behind command job in
    let says = job_said text behind command job in
    let left : lines_behind c.loop-left.left ≡ lines text = search rules in
    let going : Going all n r (f ∷ lines behind) = subst (Going all n r) (left ∙ job.line) (c.loop-left.invariant.going ls has) in
    let err : c.from_residual.result ≡ Err c.in_err-add.field-0.0 = search rules in
    let some : IsSome r.canvas = search rules in
    let misfits : IsRefused {A = Reader} (Err c.in_err-add.field-0.0) (n + 1) (misfit (entries r.draft) command) = search rules in
    let bad : IsRefused {A = Reader} (Err c.in_err-add.field-0.0) (n + 1) (cause_by r.canvas r.cells r.draft f) = subst (λ o. IsRefused {A = Reader} (Err c.in_err-add.field-0.0) (n + 1) o) (sym (says.cause r.canvas r.cells r.draft some)) misfits in
    refused all (lines behind) more n f r fault says.is_command going (subst (λ (x : Result Reader ReadRefusal). IsRefused x (n + 1) (cause_by r.canvas r.cells r.draft f)) (sym err ∙ told) bad)

pub loop-left-preserved-in-Some-plain_job : goal.loop-left-preserved-in-Some-plain_job
loop-left-preserved-in-Some-plain_job c =
    let n = c.loop-left.number in
    let r = c.loop-left.reading in
    let new = c.add.new.self in
    let text = c.in-Some.rest.now in
    let behind = c.in-Some-plain_job.behind.now in
    let command = c.in-Some-plain_job.command in
    let job : IsJobLine text command behind = search rules in
    let f = job_fields text behind command job in
    let says = job_said text behind command job in
    let left : lines_behind c.loop-left.left ≡ lines text = search rules in
    let some : IsSome r.canvas = search rules in
    let t : TakesCommand r new (n + 1) (Some command) = search rules in
    let none : misfit (entries r.draft) command ≡ None = search rules in
    record {
      fits = subst Fits (sym t.canvas) c.loop-left.invariant.fits;
      going = λ (ls : List Fields) has.
          let all = ls ++ lines c.args.text.now in
          let going : Going all n r (f ∷ lines behind) = subst (Going all n r) (left ∙ job.line) (c.loop-left.invariant.going ls has) in
          taken all (lines behind) n f r new says.is_command going (takes_job r new (n + 1) f command says t) (says.cause r.canvas r.cells r.draft some ∙ none);
    }

pub returns-in_err-take-clause-fault : goal.returns-in_err-take-clause-fault
returns-in_err-take-clause-fault c = λ ls more fault has told.
    let n = c.loop-left.number in
    let r = c.loop-left.reading in
    let f = pointed c.next_fields.new.fields.items in
    let others = lines_behind c.in_ok-behind.behind in
    let all = ls ++ lines c.args.text.now in
    let left : lines_behind c.loop-left.left ≡ f ∷ others = search rules in
    let going : Going all n r (f ∷ others) = subst (Going all n r) left (c.loop-left.invariant.going ls has) in
    let is : is_command f ≡ true = search rules in
    let err : c.from_residual-in_err-take.result ≡ Err c.in_err-take.field-0.0 = search rules in
    let bad : IsRefused {A = Reader} (Err c.in_err-take.field-0.0) (n + 1) (cause_by r.canvas r.cells r.draft f) = search rules in
    refused all others more n f r fault is going (subst (λ (x : Result Reader ReadRefusal). IsRefused x (n + 1) (cause_by r.canvas r.cells r.draft f)) (sym err ∙ told) bad)

pub loop-left-preserved-in_ok-take : goal.loop-left-preserved-in_ok-take
loop-left-preserved-in_ok-take c =
    let n = c.loop-left.number in
    let r = c.loop-left.reading in
    let new = c.take.new.self in
    let f = pointed c.next_fields.new.fields.items in
    let others = lines_behind c.in_ok-behind.behind in
    let left : lines_behind c.loop-left.left ≡ f ∷ others = search rules in
    let is : is_command f ≡ true = search rules in
    let t : Takes r new (n + 1) f = search rules in
    let none : cause_by r.canvas r.cells r.draft f ≡ None = search rules in
    record {
      fits = search rules;
      going = λ (ls : List Fields) has.
          let all = ls ++ lines c.args.text.now in
          let going : Going all n r (f ∷ others) = subst (Going all n r) left (c.loop-left.invariant.going ls has) in
          taken all others n f r new is going t none;
    }

pub loop-left-preserved : goal.loop-left-preserved
loop-left-preserved c =
    let n = c.loop-left.number in
    let r = c.loop-left.reading in
    let f = pointed c.next_fields.new.fields.items in
    let others = lines_behind c.in_ok-behind.behind in
    let left : lines_behind c.loop-left.left ≡ f ∷ others = search rules in
    let is : is_command f ≡ false = search rules in
    record {
      fits = c.loop-left.invariant.fits;
      going = λ (ls : List Fields) has.
          let all = ls ++ lines c.args.text.now in
          let going : Going all n r (f ∷ others) = subst (Going all n r) left (c.loop-left.invariant.going ls has) in
          passed all others n f r is going;
    }

pub invariant_of-result : goal.invariant_of-result
invariant_of-result c =
    let ls = c.requires.0 in
    record {
      fits = c.loop-left.invariant.fits;
      starts = starts_match c.loop-left.reading _ (c.loop-left.invariant.going ls c.requires.1).read.reading;
    }
