use Rattle.std.proofs.Common.{◌≡◌, replicate}
use Rattle.trace_state.specs.declared.slot.Slot.TheVariants.{Free}
use Rattle.trace_core.proofs.machine.free_slots.Given as goal

abbrev pub invariant-loop : goal.invariant-loop
invariant-loop l = l.slots.items ≡ replicate l.counter Free
