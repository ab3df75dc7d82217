use Rattle.std.proofs.Common.{◌≡◌, Some, sym, ap, ◌∙◌, arith}
use Rattle.std.specs.Prelude.{slice_get, slice_set}
use Rattle.std.specs.Option.{option_copied}
use Rattle.std.specs.Vec.{with_items}
use Rattle.std.proofs.lemmas.List.{with_items_is}
use Rattle.update_queue.proofs.Elements.{read_at}
use Rattle.trace_state.specs.declared.slot.Slot.TheVariants.{Free, Walks}
use Rattle.trace_core.specs.Outline.{Outline}
use Rattle.trace_core.specs.Parts.{parts}
use Rattle.trace_core.proofs.Works.{walk_ends}
use Rattle.trace_core.proofs.machine.OutlinedMachine.end_walk.Goals as goal

pub returns : goal.returns
returns c =
    let o : Outline = parts c.args.self.now in
    let at : slice_get o.slots c.args.place ≡ Some (Walks c.in-Some-Walks.walker) =
    ap (λ xs. slice_get xs c.args.place) (sym c.deref.ensures.value)
    ∙ sym (read_at c.get.result c.deref.result.now c.args.place c.get.ensures.lookup.3)
    ∙ ap option_copied c.in-Some-Walks.is ∙ ap Some c.in-Some-Walks.field-0-is in
    let left = with_items c.args.self.now.slots c.fill.new.slots in
    let filled : left.items ≡ slice_set o.slots c.args.place Free =
    with_items_is c.args.self.now.slots c.fill.new.slots (omega (arith, c.fill.auto.slots, c.deref_mut.ensures.len))
    ∙ c.fill.ensures ∙ ap (λ xs. slice_set xs c.args.place Free) c.deref_mut.ensures.value in
    let new : Outline = record o { slots = left.items } in
    walk_ends o c.args.place c.in-Some-Walks.walker at new (sym c.is_composed.ensures ∙ c.if-is_composed.true) (λ i. record o { slots = filled i })
