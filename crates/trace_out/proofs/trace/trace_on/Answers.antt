use Rattle.std.proofs.Common.{◌≡◌, sym, ap, ◌∙◌, subst}
use Rattle.std.specs.List.{list_all}
use Rattle.doc_model.specs.Feeding.{is_closed_entry}
use Rattle.doc_model.specs.Strokes.{entries}
use Rattle.doc_model.specs.Meaning.{meaning}
use Rattle.machine_model.specs.State.{State, new_state}
use Rattle.trace_lines.specs.Texts.{head_text}
use Rattle.trace_out.specs.Writing.{Writes}
use Rattle.trace_out.specs.Traces.{IsTraceOf}
use Rattle.desk_state.proofs.SettlingRuns.{fed_stays}
use Rattle.trace_out.proofs.Events.{written_then}
use Rattle.trace_out.proofs.Whole.{from_new, is_trace, limits_of}
use Rattle.trace_out.proofs.Feeding.{closed_in}
use Rattle.trace_out.proofs.trace.trace_on.Goals as goal

pub new-requires-clause-canvas : goal.new-requires-clause-canvas
new-requires-clause-canvas g c = limits_of c.args.script.now c.commands-known.ensures.script c.canvas.ensures

pub feed_all-requires-clause-none : goal.feed_all-requires-clause-none
feed_all-requires-clause-none g c = ap (λ (s : State). s.fed) c.in_ok-scribe.ensures.state

pub settle-requires-clause-closed : goal.settle-requires-clause-closed
settle-requires-clause-closed g c = ap (λ cs. list_all is_closed_entry (entries cs)) c.in_ok-feed_all.ensures.fed ∙ closed_in c.args.script.now c.commands-known.ensures.script

pub returns-clause-trace : goal.returns-clause-trace
returns-clause-trace g c =
    let w : Writes (new_state c.args.script.now.canvas c.args.slots) (head_text c.args.slots c.args.script.now.canvas) c.settle.new.scribe.desk c.settle.new.scribe.out.items = from_new c.args.slots c.canvas.result c.args.script.now.canvas c.canvas.ensures c.in_ok-scribe.ensures.state c.in_ok-scribe.ensures.text (written_then c.in_ok-feed_all.ensures.writes c.in_ok-settle.ensures.writes.puts.writes) in
    let fed : c.settle.new.scribe.desk.fed ≡ c.args.script.now.commands = fed_stays c.in_ok-settle.ensures.writes.puts.settles ∙ c.in_ok-feed_all.ensures.fed in
    subst (λ l. IsTraceOf c.args.script.now c.args.slots l) (sym c.traced_of.ensures.text)
    (is_trace c.args.script.now c.args.slots c.settle.new.scribe.desk c.settle.new.scribe.out.items c.commands-known.ensures.script c.requires.some c.requires.few w c.in_ok-settle.ensures.settled fed)

pub returns-clause-outcomes : goal.returns-clause-outcomes
returns-clause-outcomes g c =
    let canvas : c.settle.new.scribe.desk.canvas ≡ c.args.script.now.canvas = (written_then c.in_ok-feed_all.ensures.writes c.in_ok-settle.ensures.writes.puts.writes).canvas ∙ ap (λ (s : State). s.canvas) c.in_ok-scribe.ensures.state ∙ c.canvas.ensures in
    let fed : c.settle.new.scribe.desk.fed ≡ c.args.script.now.commands = fed_stays c.in_ok-settle.ensures.writes.puts.settles ∙ c.in_ok-feed_all.ensures.fed in
    c.traced_of.ensures.outcomes ∙ (λ i. (meaning (canvas i) (entries (fed i))).outcomes)
