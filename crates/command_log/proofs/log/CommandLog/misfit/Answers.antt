use Rattle.std.proofs.Common.{◌≡◌, ◌∙◌, sym, subst, Some, None}
use Rattle.doc_model.specs.Strokes.{entries}
use Rattle.command_log.specs.Misfits.{misfit_of}
use Rattle.command_log.specs.Table.{kept, export_misfit}
use Rattle.command_log.specs.Log.{Log}
use Rattle.command_log.proofs.Steps.{misfit_of_exports, misfit_of_strokes}
use Rattle.command_log.proofs.log.CommandLog.misfit.Goals as goal

pub returns-in-Some : goal.returns-in-Some
returns-in-Some c =
    let d = c.self.inside in
    let export : export_misfit d.exports c.args.command.now ≡ Some c.in-Some.misfit = sym c.export_misfit.ensures ∙ c.in-Some.is in
    subst (λ (l : Log). Some c.in-Some.misfit ≡ misfit_of (entries l.items) c.args.command.now) c.self.view_is
    (sym (misfit_of_exports (entries d.commands.items) c.args.command.now (kept d.strokes) d.exports c.in-Some.misfit c.self.invariant.tells c.self.invariant.exports export))

pub returns-in-None : goal.returns-in-None
returns-in-None c =
    let d = c.self.inside in
    let export : export_misfit d.exports c.args.command.now ≡ None = sym c.export_misfit.ensures ∙ c.in-None.is in
    subst (λ (l : Log). c.misfit.result ≡ misfit_of (entries l.items) c.args.command.now) c.self.view_is
    (c.misfit.ensures ∙ sym (misfit_of_strokes (entries d.commands.items) c.args.command.now (kept d.strokes) d.exports c.self.invariant.tells c.self.invariant.exports export))
