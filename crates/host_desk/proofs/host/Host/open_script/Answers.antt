use Rattle.std.proofs.Common.{◌≡◌, true, sym, subst}
use Rattle.doc_model.specs.Canvases.{IsOfLimits}
use Rattle.script_text.specs.Script.{Contents}
use Rattle.script_text.specs.Closed.{is_script}
use Rattle.script_text.proofs.Scripts.{script_holds}
use Rattle.host_desk.proofs.FedScripts.{no_memory_opens}
use Rattle.host_desk.proofs.host.Host.open_script.Goals as goal

pub following-requires-clause-canvas : goal.following-requires-clause-canvas
following-requires-clause-canvas c = subst IsOfLimits (sym c.canvas.ensures) (script_holds c.in_ok-script.script (subst (λ (s : Contents). is_script s ≡ true) c.script.view_is c.script.invariant)).canvas

pub returns-in_err-feed_script : goal.returns-in_err-feed_script
returns-in_err-feed_script c = no_memory_opens c.args.text.now c.args.slots c.from_residual-in_err-feed_script.result c.from_residual-in_err-feed_script.ensures.0 c.from_residual-in_err-feed_script.ensures.1
