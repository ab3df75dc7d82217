use Rattle.std.proofs.Common.{sym, ◌∙◌, arith}
use Rattle.machine_model.specs.Slots.{is_walker}
use Rattle.desk_state.proofs.SlotTests.{any_next, any_stops, any_ends}
use Rattle.slot_work.proofs.slot_tests.some_walker.Goals as goal

pub returns-then-is_walker_at : goal.returns-then-is_walker_at
returns-then-is_walker_at c = any_stops is_walker c.args.slots.now c.loop-place.place (omega (arith, c.count-place-end.ensures.value)) (λ slot h. sym c.if-is_walker_at.true ∙ c.is_walker_at.ensures slot h) c.loop-place.invariant

pub loop-place-preserved : goal.loop-place-preserved
loop-place-preserved c = any_next is_walker c.args.slots.now c.loop-place.place (omega (arith, c.count-place-end.ensures.value)) (λ slot h. sym c.if-is_walker_at.false ∙ c.is_walker_at.ensures slot h) c.loop-place.invariant

pub returns : goal.returns
returns c = any_ends is_walker c.args.slots.now c.loop-place.place (omega (arith, c.count-place-end.ensures.value)) c.loop-place.invariant
