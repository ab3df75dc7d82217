use Rattle.std.proofs.Common.{◌≡◌, Some, sym, ap, ◌∙◌, arith}
use Rattle.std.specs.Prelude.{slice_get, slice_set}
use Rattle.std.specs.Option.{option_copied}
use Rattle.std.specs.Vec.{with_items}
use Rattle.std.proofs.lemmas.List.{with_items_is}
use Rattle.doc_model.specs.Jobs.{writes}
use Rattle.update_queue.specs.Waiting.{widened_by_all}
use Rattle.update_queue.proofs.Elements.{read_at}
use Rattle.trace_state.specs.declared.slot.Slot.TheVariants.{Free, Paints}
use Rattle.trace_state.specs.Trees.{group_of}
use Rattle.trace_core.specs.Outline.{Outline}
use Rattle.trace_core.specs.Parts.{parts}
use Rattle.trace_core.proofs.Works.{ends}
use Rattle.trace_core.proofs.machine.OutlinedMachine.end_job.Goals as goal

pub returns : goal.returns
returns c =
    let o : Outline = parts c.args.self.now in
    let w = c.in-Some-Paints.painter in
    let at : slice_get o.slots c.args.place ≡ Some (Paints w) =
    ap (λ xs. slice_get xs c.args.place) (sym c.deref.ensures.value)
    ∙ sym (read_at c.get.result c.deref.result.now c.args.place c.get.ensures.lookup.3)
    ∙ ap option_copied c.in-Some-Paints.is ∙ ap Some c.in-Some-Paints.field-0-is in
    let rects : c.as_slice.result.now ≡ writes w.job = c.as_slice.ensures.value ∙ c.writes.ensures ∙ ap writes c.job-job.ensures.job in
    let widened : c.widen_all.new.updates ≡ widened_by_all o.updates (group_of c.in-Some.head.layer o.present) (writes w.job) =
    c.widen_all.ensures ∙ (λ i. widened_by_all o.updates (c.group_of-group.ensures i) (rects i)) in
    let left = with_items c.args.self.now.slots c.fill.new.slots in
    let filled : left.items ≡ slice_set o.slots c.args.place Free =
    with_items_is c.args.self.now.slots c.fill.new.slots (omega (arith, c.fill.auto.slots, c.deref_mut.ensures.len))
    ∙ c.fill.ensures ∙ ap (λ xs. slice_set xs c.args.place Free) c.deref_mut.ensures.value in
    let new : Outline = record o { slots = left.items; updates = c.widen_all.new.updates } in
    ends o c.args.place c.in-Some.head w (sym c.in-Some.ensures) at new (sym c.is_painted.ensures ∙ c.if-is_painted.true) (λ i. record o { slots = filled i; updates = widened i })
