use Rattle.std.proofs.Common.{sym, subst}
use Rattle.doc_model.specs.Canvases.{IsOfLimits}
use Rattle.script_text.proofs.Scripts.{script_holds}
use Rattle.wet_paint.proofs.screen.bare.Goals as goal

pub new-requires-clause-w : goal.new-requires-clause-w
new-requires-clause-w c = (subst IsOfLimits (sym c.canvas-canvas.ensures) (script_holds c.args.script.now c.commands-commands.ensures.script).canvas).w

pub new-requires-clause-h : goal.new-requires-clause-h
new-requires-clause-h c = (subst IsOfLimits (sym c.canvas-canvas.ensures) (script_holds c.args.script.now c.commands-commands.ensures.script).canvas).h

pub new-requires-clause-opaque : goal.new-requires-clause-opaque
new-requires-clause-opaque c = (subst IsOfLimits (sym c.canvas-canvas.ensures) (script_holds c.args.script.now c.commands-commands.ensures.script).canvas).paper
