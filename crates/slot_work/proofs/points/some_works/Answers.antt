use Rattle.std.proofs.Common.{map, ap, sym, ◌∙◌, arith}
use Rattle.std.specs.List.{list_any}
use Rattle.geom_core.specs.Areas.{Point}
use Rattle.desk_state.specs.Choices.{works_on}
use Rattle.desk_state.specs.Parts.{slot_of}
use Rattle.desk_state.proofs.SlotTests.{any_next, any_stops, any_ends}
use Rattle.slot_work.proofs.SlotPoints.{point_read}
use Rattle.slot_work.proofs.points.some_works.Goals as goal

pub returns-then-is_worked : goal.returns-then-is_worked
returns-then-is_worked c =
    let is = point_read c.args.x c.args.y c.ranges.x c.ranges.y in
    any_stops (works_on _) c.args.slots.now c.loop-place.place (omega (arith, c.count-place-end.ensures.value)) (λ slot h. sym c.if-is_worked.true ∙ c.is_worked.ensures slot h) c.loop-place.invariant ∙ ap (λ (q : Point). list_any (works_on q) (map slot_of c.args.slots.now)) is

pub loop-place-preserved : goal.loop-place-preserved
loop-place-preserved c = any_next (works_on _) c.args.slots.now c.loop-place.place (omega (arith, c.count-place-end.ensures.value)) (λ slot h. sym c.if-is_worked.false ∙ c.is_worked.ensures slot h) c.loop-place.invariant

pub returns : goal.returns
returns c =
    let is = point_read c.args.x c.args.y c.ranges.x c.ranges.y in
    any_ends (works_on _) c.args.slots.now c.loop-place.place (omega (arith, c.count-place-end.ensures.value)) c.loop-place.invariant ∙ ap (λ (q : Point). list_any (works_on q) (map slot_of c.args.slots.now)) is
