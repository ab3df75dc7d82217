use Rattle.std.proofs.Common.{sym, subst}
use Rattle.doc_model.specs.Canvases.{IsOfLimits}
use Rattle.script_text.proofs.Scripts.{script_holds}
use Rattle.wet_paint.proofs.paint.paint.Goals as goal

pub live_frame-requires-clause-limits : goal.live_frame-requires-clause-limits
live_frame-requires-clause-limits g c = subst IsOfLimits (sym c.in_ok-desk.ensures.ok.painted.canvas) (script_holds c.args.script.now c.commands-commands.ensures.script).canvas
