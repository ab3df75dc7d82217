use Rattle.std.proofs.Common.{◌≡◌, Err, Some, length, ◌∙◌, sym, ap, subst, rules, arith}
use Rattle.doc_model.specs.Strokes.{entries}
use Rattle.brush_path.specs.Cells.{jobs}
use Rattle.script_text.specs.Read.{IsRefused}
use Rattle.script_text.proofs.PathLines.{path_in_range, path_fits, path_unfit, jobs_fit}
use Rattle.script_text.proofs.reading.Reading.add_path.Goals as goal

pub returns-in-Some-clause-refused : goal.returns-in-Some-clause-refused
returns-in-Some-clause-refused c =
    let bad : IsRefused {A = Unit {0}} (Err c.at.result) c.args.number (Some c.in-Some.cause) = search rules in
    let unfit = path_unfit (entries c.args.self.now.draft) c.args.no c.args.self.now.cells c.args.track.now c.len.result c.in-Some.cause c.in-Some.ensures
    (c.len.ensures ∙ c.in_ok-jobs.jobs.ok.0 ∙ ap length c.in_ok-jobs.ensures.value) in
    subst (λ o. IsRefused {A = Unit {0}} (Err c.at.result) c.args.number o) (sym unfit) bad

pub add_jobs-requires-clause-fits : goal.add_jobs-requires-clause-fits
add_jobs-requires-clause-fits c = jobs_fit (entries c.args.self.now.draft) c.args.no c.len.result (length c.deref.result.now) c.in_default.ensures (c.len.ensures ∙ c.in_ok-jobs.jobs.ok.0 ∙ sym (ap length c.deref.ensures.value))

pub add_jobs-requires-clause-ranges : goal.add_jobs-requires-clause-ranges
add_jobs-requires-clause-ranges c = path_in_range c.args.track.now c.deref.result.now (c.deref.ensures.value ∙ c.in_ok-jobs.ensures.value) c.requires.ranges

pub returns-clause-refused : goal.returns-clause-refused
returns-clause-refused c =
    let many : length c.in_ok-jobs.jobs.items ≡ length (jobs c.args.track.now) = ap length c.in_ok-jobs.ensures.value in
    path_fits (entries c.args.self.now.draft) c.args.no c.args.self.now.cells c.args.track.now c.len.result c.len-2.result c.saturating_add.result c.in_default.ensures
    (c.len.ensures ∙ c.in_ok-jobs.jobs.ok.0 ∙ many) (c.len-2.ensures ∙ c.in_ok-jobs.jobs.ok.0 ∙ many) (omega arith) (omega arith) c.saturating_add.ensures (omega arith)
