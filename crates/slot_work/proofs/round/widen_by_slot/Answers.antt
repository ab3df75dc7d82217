use Rattle.std.proofs.Common.{Some, None, sym, ap, ◌∙◌, subst}
use Rattle.geom_core.specs.Areas.{holds}
use Rattle.doc_model.specs.declared.canvas.Patch.{Patch}
use Rattle.machine_model.specs.State.{Slot}
use Rattle.desk_state.specs.declared.work.Work.TheVariants.{Paint, Walk}
use Rattle.desk_state.specs.Choices.{works_on}
use Rattle.slot_work.specs.Round.{Widens}
use Rattle.slot_work.proofs.Rounding.{widens_nothing}
use Rattle.slot_work.proofs.SlotPoints.{slot_there, checked_at}
use Rattle.slot_work.proofs.round.widen_by_slot.Goals as goal

pub widen_by_writes-requires : goal.widen_by_writes-requires
widen_by_writes-requires c = checked_at c.args.slots.now c.args.place c.in-Some-Paint.painter c.requires (ap Some (sym c.in-Some-Paint.field-0-is) ∙ c.in-Some-Paint.ensures)

pub returns-in-Some-Paint : goal.returns-in-Some-Paint
returns-in-Some-Paint c slot h = subst (λ (s : Slot). Widens c.args.bounds.now (λ p. works_on p s) c.args.so_far c.widen_by_writes.result)
    (slot_there c.args.slots.now c.args.place (Some (Paint c.in-Some-Paint.painter)) slot (ap Some (sym c.in-Some-Paint.field-0-is) ∙ c.in-Some-Paint.ensures) h) c.widen_by_writes.ensures

pub returns-in-Some-Walk : goal.returns-in-Some-Walk
returns-in-Some-Walk c slot h = subst (λ (s : Slot). Widens c.args.bounds.now (λ p. works_on p s) c.args.so_far c.widen_by.result)
    (slot_there c.args.slots.now c.args.place (Some (Walk c.in-Some-Walk.walker)) slot (ap Some (sym c.in-Some-Walk.field-0-is) ∙ c.in-Some-Walk.ensures) h)
    (subst (λ (q : Patch). Widens c.args.bounds.now (holds q.rect) c.args.so_far c.widen_by.result) c.patch.ensures c.widen_by.ensures)

pub returns-in-None : goal.returns-in-None
returns-in-None c slot h = subst (λ (s : Slot). Widens c.args.bounds.now (λ p. works_on p s) c.args.so_far c.args.so_far)
    (slot_there c.args.slots.now c.args.place None slot c.in-None.ensures h) (widens_nothing c.args.bounds.now c.args.so_far)
