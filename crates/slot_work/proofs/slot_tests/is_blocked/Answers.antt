use Rattle.std.proofs.Common.{sym, ◌∙◌, arith}
use Rattle.machine_model.specs.Guards.{blocks}
use Rattle.desk_state.proofs.SlotTests.{any_next, any_stops, any_ends}
use Rattle.slot_work.proofs.slot_tests.is_blocked.Goals as goal

pub returns-then-is_blocked_at : goal.returns-then-is_blocked_at
returns-then-is_blocked_at c = any_stops (blocks c.args.jobs.now c.args.kind) c.args.slots.now c.loop-place.place (omega (arith, c.count-place-end.ensures.value)) (λ slot h. sym c.if-is_blocked_at.true ∙ c.is_blocked_at.ensures slot h) c.loop-place.invariant

pub loop-place-preserved : goal.loop-place-preserved
loop-place-preserved c = any_next (blocks c.args.jobs.now c.args.kind) c.args.slots.now c.loop-place.place (omega (arith, c.count-place-end.ensures.value)) (λ slot h. sym c.if-is_blocked_at.false ∙ c.is_blocked_at.ensures slot h) c.loop-place.invariant

pub returns : goal.returns
returns c = any_ends (blocks c.args.jobs.now c.args.kind) c.args.slots.now c.loop-place.place (omega (arith, c.count-place-end.ensures.value)) c.loop-place.invariant
