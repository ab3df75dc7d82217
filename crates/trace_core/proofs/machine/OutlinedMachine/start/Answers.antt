use Rattle.std.proofs.Common.{◌≡◌, ◌+◌, suc, Some, refl, sym, ap, ◌∙◌, arith}
use Rattle.std.specs.Prelude.{slice_get, slice_set}
use Rattle.std.specs.Option.{option_copied}
use Rattle.std.specs.Vec.{with_items}
use Rattle.std.specs.FinSet as set
use Rattle.std.proofs.lemmas.List.{with_items_is}
use Rattle.update_queue.proofs.Elements.{read_at}
use Rattle.trace_state.specs.declared.slot.Slot.TheVariants.{Paints}
use Rattle.entry_queue.specs.Heads.{jobs_in}
use Rattle.trace_core.specs.Outline.{Outline}
use Rattle.trace_core.specs.Parts.{parts}
use Rattle.trace_core.proofs.Works.{starts, start_waits}
use Rattle.trace_core.proofs.machine.OutlinedMachine.start.Goals as goal

pub returns-then-not-may_start : goal.returns-then-not-may_start
returns-then-not-may_start c =
    let o : Outline = parts c.args.self.now in
    let n = c.in-Some-way.index in
    let next : slice_get (jobs_in o.left) n ≡ Some c.in-Some-get.field-0.now = ap (λ js. slice_get js n) (sym c.jobs.ensures.value) ∙ sym (read_at c.get.result c.jobs.result.now n c.get.ensures.lookup.3) ∙ ap option_copied c.in-Some-get.is in (
      start_waits o c.args.place c.in-Some.head n c.in-Some-get.field-0.now (sym c.in-Some.ensures) c.in-Some-way.is (c.is_free.ensures.0 c.if-not-is_free.false) next (sym c.may_start.ensures ∙ c.if-not-may_start.true),
      refl,
    )

pub returns : goal.returns
returns c =
    let o : Outline = parts c.args.self.now in
    let n = c.in-Some-way.index in
    let job = c.in-Some-get.field-0.now in
    let next : slice_get (jobs_in o.left) n ≡ Some job = ap (λ js. slice_get js n) (sym c.jobs.ensures.value) ∙ sym (read_at c.get.result c.jobs.result.now n c.get.ensures.lookup.3) ∙ ap option_copied c.in-Some-get.is in
    let left = with_items c.args.self.now.slots c.fill.new.slots in
    let filled : left.items ≡ slice_set o.slots c.args.place (Paints (record { index = n; job = job.1; published = set.empty })) =
    with_items_is c.args.self.now.slots c.fill.new.slots (omega (arith, c.fill.auto.slots, c.deref_mut.ensures.len))
    ∙ c.fill.ensures ∙ (λ i. slice_set (c.deref_mut.ensures.value i) c.args.place (Paints (c.new-painter.ensures i))) in
    let more : n + 1 ≡ suc n = omega arith in
    let new : Outline = record o { way = Some (n + 1); slots = left.items } in
    starts o c.args.place c.in-Some.head n job (sym c.in-Some.ensures) c.in-Some-way.is (c.is_free.ensures.0 c.if-not-is_free.false) next new (sym c.may_start.ensures ∙ c.if-not-may_start.false) (λ i. record o { way = Some (more i); slots = filled i })
