use Rattle.std.proofs.Common.{◌≡◌, ◌<◌, true, List, sym, subst, arith, length}
use Rattle.doc_model.specs.declared.command.Command.{Command}
use Rattle.doc_model.specs.Canvases.{IsOfLimits}
use Rattle.script_text.proofs.Scripts.{script_holds}
use Rattle.artists.specs.Senders.{AreSenders}
use Rattle.artists.proofs.Whole.{each_one, fed_shared}
use Rattle.artists.proofs.drawing.feed_together.Goals as goal

pub new-requires-clause-canvas : goal.new-requires-clause-canvas
new-requires-clause-canvas g c = subst IsOfLimits (sym c.canvas.ensures) (script_holds c.args.script.now c.commands-commands.ensures.script).canvas

pub gather-requires : goal.gather-requires
gather-requires g c = record { each = each_one c.in_ok-studio.studio.id c.args.artists c.commands-commands.result.now c.in_ok-senders.senders.items c.in_ok-senders.ensures.each }

pub returns-clause-shared : goal.returns-clause-shared
returns-clause-shared g c =
    let id = c.in_ok-studio.studio.id in
    let senders = c.in_ok-senders.senders.items in
    let some : 0 < c.args.artists = omega arith in
    let count : length senders ≡ c.args.artists = omega (arith, c.in_ok-senders.ensures.all, c.in_ok-senders.senders.ok.0) in
    let are : AreSenders id c.args.artists c.args.script.now.commands senders = subst (λ (l : List Command). AreSenders id c.args.artists l senders) c.commands-commands.ensures.value c.in_ok-senders.ensures.each in
    let done : c.in-Some.last.done ≡ true = c.if-not-done.false in
    fed_shared id c.args.artists c.args.script.now.commands c.close.result.desk.fed c.in-Some.last.pass.seen senders c.in-Some.last some count are c.in-Some.ensures.all done c.close.ensures.made c.close.ensures.fed
