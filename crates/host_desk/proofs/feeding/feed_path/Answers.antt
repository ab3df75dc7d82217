use Rattle.std.proofs.Common.{List, length, ◌∙◌, subst}
use Rattle.std.specs.Option.{option_map}
use Rattle.doc_model.specs.Strokes.{entries}
use Rattle.doc_model.specs.declared.job.Job.{Job}
use Rattle.command_log.specs.Misfits.{jobs_misfit}
use Rattle.script_text.specs.Paths.{adding}
use Rattle.script_text.specs.Reading.{cause_of}
use Rattle.host_desk.specs.Feeding.{Fed}
use Rattle.host_desk.proofs.feeding.feed_path.Goals as goal

pub returns-in-Ok : goal.returns-in-Ok
returns-in-Ok c = subst (λ (js : List Job). Fed c.args.desk.now (option_map cause_of (jobs_misfit (entries c.args.desk.now.fed) c.args.no (length js))) (adding c.args.no js) c.feed_jobs.result c.feed_jobs.new.desk) (c.deref.ensures.value ∙ c.in-Ok.ensures.value) c.feed_jobs.ensures
