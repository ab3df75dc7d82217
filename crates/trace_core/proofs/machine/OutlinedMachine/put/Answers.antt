use Rattle.std.proofs.Common.{◌≡◌, Some, refl, arith}
use Rattle.std.specs.Prelude.{slice_get}
use Rattle.std.proofs.lemmas.Option.{slice_get_read}
use Rattle.trace_core.specs.Outline.{Outline}
use Rattle.trace_core.specs.Parts.{parts}
use Rattle.trace_core.specs.Moves.{with_slot}
use Rattle.trace_core.proofs.Works.{composes}
use Rattle.trace_core.proofs.machine.OutlinedMachine.put.Goals as goal

pub returns : goal.returns
returns c =
    let o : Outline = parts c.args.self.now in
    let slots = c.args.self.now.slots in
    let x = c.index_mut.result.now in
    let at : slice_get o.slots c.args.place ≡ Some x = slice_get_read slots.items slots.len c.args.place x slots.ok.0 (omega arith) c.index_mut.ensures.value in
    composes o (with_slot o c.args.place c.put.new.self) c.args.place c.args.group c.args.key x c.put.new.self c.put.result at c.put.ensures refl
