use Rattle.std.proofs.Common.{sym, subst}
use Rattle.doc_model.specs.Canvases.{IsOfLimits}
use Rattle.script_text.proofs.Scripts.{script_holds}
use Rattle.live_run.proofs.run.paint_lent.Goals as goal

pub new-screen-requires-clause-limits : goal.new-screen-requires-clause-limits
new-screen-requires-clause-limits g c = subst IsOfLimits (sym c.canvas.ensures) (script_holds c.args.script.now c.commands-commands.ensures.script).canvas
