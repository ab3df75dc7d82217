use Rattle.std.proofs.Common.{◌≡◌, List, ℕ, [], refl, sym, ap, ◌∙◌, subst}
use Rattle.std.specs.Global.{Vec}
use Rattle.doc_model.specs.Canvases.{IsOfLimits}
use Rattle.doc_model.specs.Feeding.{lawful}
use Rattle.script_text.proofs.Scripts.{HoldsOfScript, script_holds}
use Rattle.plain_painter.specs.Tellings.{Ends, HasCome, IsReady, Tells}
use Rattle.plain_painter.proofs.Entries.{come_further, come_none, come_tells, next_ready}
use Rattle.plain_painter.proofs.Queued.{shorter, ready_leaves}
use Rattle.plain_painter.proofs.plain.plain_frames.Goals as goal

pub fed-requires : goal.fed-requires
fed-requires c = ap lawful c.commands.ensures.value ∙ (script_holds c.args.script.now c.commands.ensures.script).follows

pub loop-entry-init : goal.loop-entry-init
loop-entry-init c = (
  come_none c.commands.result.now c.args.script.now.commands c.new-telling.result c.in_ok-queue.queue c.commands.ensures.value c.in_ok-queue.ensures.stands c.in_ok-queue.ensures.outcomes c.new-telling.ensures.story,
  c.new-telling.ensures.canvas ∙ c.canvas.ensures,
)

pub end-requires-clause-canvas : goal.end-requires-clause-canvas
end-requires-clause-canvas c = subst IsOfLimits (sym c.loop-entry.invariant.1) (script_holds c.args.script.now c.commands.ensures.script).canvas

pub end-requires-clause-ready : goal.end-requires-clause-ready
end-requires-clause-ready c =
    let script : HoldsOfScript c.args.script.now = script_holds c.args.script.now c.commands.ensures.script in
    next_ready c.args.script.now.commands c.loop-entry.telling c.loop-entry.queue c.in-Some.entry.now script.follows script.closed c.loop-entry.invariant.0 c.in-Some.ensures.value

pub pop-requires : goal.pop-requires
pop-requires c =
    let script : HoldsOfScript c.args.script.now = script_holds c.args.script.now c.commands.ensures.script in
    ready_leaves c.loop-entry.queue c.in-Some.entry.now c.in-Some.ensures.value
    (next_ready c.args.script.now.commands c.loop-entry.telling c.loop-entry.queue c.in-Some.entry.now script.follows script.closed c.loop-entry.invariant.0 c.in-Some.ensures.value)

pub loop-entry-preserved : goal.loop-entry-preserved
loop-entry-preserved c =
    let script : HoldsOfScript c.args.script.now = script_holds c.args.script.now c.commands.ensures.script in
    let come : HasCome c.args.script.now.commands c.end.new.self c.pop.new.self =
    come_further c.args.script.now.commands c.loop-entry.telling c.end.new.self c.loop-entry.queue c.pop.new.self c.in-Some.entry.now c.in_ok-outcome.outcome c.loop-entry.invariant.0 c.in-Some.ensures.value
    c.in_ok-outcome.ensures c.pop.ensures.outcomes (c.pop.ensures.stands c.args.script.now.commands c.loop-entry.invariant.0.queue) in
    let next : IsReady c.in-Some.entry.now = next_ready c.args.script.now.commands c.loop-entry.telling c.loop-entry.queue c.in-Some.entry.now script.follows script.closed c.loop-entry.invariant.0 c.in-Some.ensures.value in
    let ends : Ends next.entry c.loop-entry.telling c.end.new.self c.in_ok-outcome.outcome = c.in_ok-outcome.ensures next.entry next.is in
    (come, ends.canvas ∙ c.loop-entry.invariant.1)

pub loop-entry-smaller : goal.loop-entry-smaller
loop-entry-smaller c =
    let script : HoldsOfScript c.args.script.now = script_holds c.args.script.now c.commands.ensures.script in
    shorter c.loop-entry.queue.left c.pop.new.self.left
    (ready_leaves c.loop-entry.queue c.in-Some.entry.now c.in-Some.ensures.value
    (next_ready c.args.script.now.commands c.loop-entry.telling c.loop-entry.queue c.in-Some.entry.now script.follows script.closed c.loop-entry.invariant.0 c.in-Some.ensures.value))
    c.pop.ensures.left

pub returns : goal.returns
returns c =
    let none : c.loop-entry.queue.left ≡ [] = c.in_default.ensures.none.0 refl in
    subst (λ frames. Tells c.args.script.now frames c.in_ok-outcomes.outcomes.items) (ap (λ (v : Vec (Vec (List ℕ))). v.items) (sym c.into_frames.ensures))
    (subst (Tells c.args.script.now c.loop-entry.telling.frames.items) (sym (c.in_ok-outcomes.ensures.items ∙ c.outcomes.ensures))
    (come_tells c.args.script.now c.loop-entry.telling c.loop-entry.queue c.loop-entry.invariant.0 c.loop-entry.invariant.1 none))
