use Rattle.std.proofs.Common.{◌∙◌}
use Rattle.doc_model.specs.Strokes.{entries}
use Rattle.command_log.proofs.Rooms.{jobs_same}
use Rattle.command_log.proofs.log.CommandLog.jobs_misfit.Goals as goal

pub returns-in-None : goal.returns-in-None
returns-in-None c = jobs_same (entries c.args.self.now.items) c.args.no c.args.count _ c.in-None.ensures

pub returns-in-Some : goal.returns-in-Some
returns-in-Some c = c.jobs_misfit.ensures ∙ jobs_same (entries c.args.self.now.items) c.args.no c.args.count _ c.in-Some.ensures
