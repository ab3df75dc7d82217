use Rattle.std.proofs.Common.{◌≡◌, map, sym, ap, ◌∙◌, arith}
use Rattle.std.specs.Prelude.{slice_set}
use Rattle.std.specs.Vec.{with_items}
use Rattle.std.proofs.lemmas.List.{with_items_is}
use Rattle.trace_state.specs.declared.slot.Slot.TheVariants.{Walks}
use Rattle.trace_state.specs.Trees.{tree_path}
use Rattle.trace_state.specs.Walking.{Walking, unpublished}
use Rattle.trace_core.specs.Outline.{Outline}
use Rattle.trace_core.specs.Parts.{parts}
use Rattle.trace_core.proofs.Works.{walk_starts}
use Rattle.trace_core.proofs.machine.OutlinedMachine.walk.Goals as goal

pub returns : goal.returns
returns c =
    let o : Outline = parts c.args.self.now in
    let p = c.patch-patch.result in
    let walker : Walking = record { patch = p; groups = map unpublished (tree_path p.walk o.present) } in
    let made : c.in_ok-walker.walker ≡ walker = c.in_ok-walker.ensures ∙ ap (λ gs. record { patch = p; groups = map unpublished gs }) (c.deref.ensures.value ∙ c.in_ok-path.ensures) in
    let left = with_items c.args.self.now.slots c.fill.new.slots in
    let filled : left.items ≡ slice_set o.slots c.args.place (Walks walker) =
    with_items_is c.args.self.now.slots c.fill.new.slots (omega (arith, c.fill.auto.slots, c.deref_mut.ensures.len))
    ∙ c.fill.ensures ∙ (λ i. slice_set (c.deref_mut.ensures.value i) c.args.place (Walks (made i))) in
    let new : Outline = record o { updates = c.take_at-patch.new.self; slots = left.items } in
    walk_starts o c.args.place c.args.patch.now c.in-Some.i p (c.is_free.ensures.0 c.if-not-is_free.false) c.in-Some.ensures.some c.patch-patch.ensures new (sym c.may_walk.ensures ∙ c.if-not-may_walk.false) (λ i. record o { updates = c.take_at-patch.ensures.left i; slots = filled i })
