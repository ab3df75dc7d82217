use Rattle.std.proofs.Common.{◌≡◌, ℕ, take, drop}
use Rattle.desk_steps.specs.Slots.{device_in, has_slot}
use Rattle.desk_steps.proofs.Arranged.{UpTo}
use Rattle.desk_steps.proofs.arrangement.exchange_devices.Given as goal

-- the devices of the slots so far are exchanged, and the slots stay
abbrev pub invariant-loop-slot : goal.invariant-loop-slot
invariant-loop-slot l = UpTo (has_slot l.fn.devices) (device_in l.fn.devices) l.fn.slots (device_in l.devices) (take l.slot-index l.slots) (drop l.slot-index l.slots) × ((q : ℕ) → has_slot l.devices q ≡ has_slot l.fn.devices q)
