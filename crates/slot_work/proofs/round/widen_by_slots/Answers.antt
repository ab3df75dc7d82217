use Rattle.std.proofs.Common.{arith}
use Rattle.slot_work.proofs.Rounding.{widens_nothing, slots_next, slots_all}
use Rattle.slot_work.proofs.round.widen_by_slots.Goals as goal

pub loop-place-init : goal.loop-place-init
loop-place-init c = widens_nothing c.args.bounds.now c.args.so_far

pub loop-place-preserved : goal.loop-place-preserved
loop-place-preserved c = slots_next c.args.bounds.now c.args.slots.now c.loop-place.place c.args.so_far c.loop-place.round c.widen_by_slot-round.result (omega (arith, c.count-place-end.ensures.value)) c.loop-place.invariant c.widen_by_slot-round.ensures

pub returns : goal.returns
returns c = slots_all c.args.bounds.now c.args.slots.now c.loop-place.place c.args.so_far c.loop-place.round (omega (arith, c.count-place-end.ensures.value)) c.loop-place.invariant
