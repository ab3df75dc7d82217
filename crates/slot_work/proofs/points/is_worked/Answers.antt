use Rattle.std.proofs.Common.{false, Some, None, refl, sym, ap, ◌∙◌}
use Rattle.geom_core.specs.Areas.{point, holds}
use Rattle.geom_core.specs.Rects.{any_holds}
use Rattle.doc_model.specs.Jobs.{writes}
use Rattle.desk_state.specs.declared.work.Work.TheVariants.{Paint, Walk}
use Rattle.slot_work.proofs.SlotPoints.{point_read, work_works, checked_at}
use Rattle.slot_work.proofs.points.is_worked.Goals as goal

pub returns-in-Some-Paint : goal.returns-in-Some-Paint
returns-in-Some-Paint c slot h =
    work_works c.args.slots.now c.args.place (point c.args.x c.args.y) (Some (Paint c.in-Some-Paint.painter)) slot c.is_painted_by.result (ap Some (sym c.in-Some-Paint.field-0-is) ∙ c.in-Some-Paint.ensures)
    (c.is_painted_by.ensures ∙ ap (any_holds (writes c.in-Some-Paint.painter.job)) (point_read c.args.x c.args.y c.ranges.x c.ranges.y)) h

pub returns-in-Some-Walk : goal.returns-in-Some-Walk
returns-in-Some-Walk c slot h =
    work_works c.args.slots.now c.args.place (point c.args.x c.args.y) (Some (Walk c.in-Some-Walk.walker)) slot c.holds.result (ap Some (sym c.in-Some-Walk.field-0-is) ∙ c.in-Some-Walk.ensures)
    (c.holds.ensures ∙ (λ i. holds (c.patch.ensures i).rect (point_read c.args.x c.args.y c.ranges.x c.ranges.y i))) h

pub returns-in-None : goal.returns-in-None
returns-in-None c slot h = work_works c.args.slots.now c.args.place (point c.args.x c.args.y) None slot false c.in-None.ensures refl h

pub is_painted_by-requires : goal.is_painted_by-requires
is_painted_by-requires c = checked_at c.args.slots.now c.args.place c.in-Some-Paint.painter c.requires (ap Some (sym c.in-Some-Paint.field-0-is) ∙ c.in-Some-Paint.ensures)
