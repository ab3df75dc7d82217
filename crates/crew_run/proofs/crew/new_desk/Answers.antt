use Rattle.std.proofs.Common.{sym, subst}
use Rattle.doc_model.specs.Canvases.{IsOfLimits}
use Rattle.script_text.proofs.Scripts.{script_holds}
use Rattle.crew_run.proofs.crew.new_desk.Goals as goal

pub following-requires-clause-canvas : goal.following-requires-clause-canvas
following-requires-clause-canvas c = subst IsOfLimits (sym c.canvas.ensures) (script_holds c.args.script.now c.commands-commands.ensures.script).canvas
