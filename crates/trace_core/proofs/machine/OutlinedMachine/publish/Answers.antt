use Rattle.std.proofs.Common.{◌≡◌, true, not, Some, is_some, refl, sym, ap, ◌∙◌, arith}
use Rattle.std.specs.Prelude.{slice_get}
use Rattle.std.proofs.lemmas.Option.{slice_get_read}
use Rattle.entry_queue.specs.Heads.{head_in}
use Rattle.trace_core.specs.Outline.{Outline}
use Rattle.trace_core.specs.Parts.{parts}
use Rattle.trace_core.specs.Moves.{with_slot}
use Rattle.trace_core.proofs.Works.{publishes}
use Rattle.trace_core.proofs.machine.OutlinedMachine.publish.Goals as goal

pub returns : goal.returns
returns c =
    let o : Outline = parts c.args.self.now in
    let slots = c.args.self.now.slots in
    let x = c.index_mut.result.now in
    let waits : is_some (head_in o.left) ≡ true = ap is_some (sym c.head.ensures) ∙ c.is_none.ensures ∙ ap not c.if-is_none.false in
    let at : slice_get o.slots c.args.place ≡ Some x = slice_get_read slots.items slots.len c.args.place x slots.ok.0 (omega arith) c.index_mut.ensures.value in
    publishes o (with_slot o c.args.place c.publish.new.self) c.args.place c.args.key x c.publish.new.self c.publish.result waits at c.publish.ensures refl
