use Rattle.std.proofs.Common.{◌≡◌, length, sym, ap, subst, ◌∙◌, refl, arith}
use Rattle.desk_steps.specs.Slots.{AllHave, device_in, has_slot, once_filled}
use Rattle.desk_steps.proofs.Arranged.{none_yet, step_up, next_has, ended, have_more}
use Rattle.desk_steps.proofs.arrangement.exchange_devices.Goals as goal

pub loop-slot-init : goal.loop-slot-init
loop-slot-init c = (none_yet (has_slot c.args.devices.now) (device_in c.args.devices.now) c.args.slots.now c.requires, λ q. refl)

pub exchange_device-requires : goal.exchange_device-requires
exchange_device-requires c = c.loop-slot.invariant.1 _ ∙ next_has (has_slot c.args.devices.now) (device_in c.args.devices.now) c.args.slots.now (device_in c.loop-slot.devices) c.loop-slot.slots c.loop-slot.slot-index c.slot-item.result
    (omega (arith, c.loop-slot-test.true, c.loop-slot.auto.slots)) c.loop-slot.invariant.0

pub loop-slot-preserved : goal.loop-slot-preserved
loop-slot-preserved c = (
  step_up (has_slot c.args.devices.now) (device_in c.args.devices.now) c.args.slots.now (device_in c.loop-slot.devices) (device_in c.exchange_device.new.devices) c.loop-slot.slots c.loop-slot.slot-index c.slot-item.result c.exchange_device.new.slot
      (omega (arith, c.loop-slot-test.true, c.loop-slot.auto.slots)) c.exchange_device.ensures.new c.exchange_device.ensures.id c.exchange_device.ensures.back c.loop-slot.invariant.0,
  (λ q. c.exchange_device.ensures.slots q ∙ c.loop-slot.invariant.1 q),
)

pub returns-clause-new : goal.returns-clause-new
returns-clause-new c =
    let last : c.loop-slot.slot-index ≡ length c.loop-slot.slots = omega (arith, c.loop-slot-test.false, c.loop-slot.auto.slots, c.loop-slot.auto.slot-index-end) in
    (ended (has_slot c.args.devices.now) (device_in c.args.devices.now) c.args.slots.now (device_in c.loop-slot.devices) c.loop-slot.slots c.loop-slot.slot-index last c.loop-slot.invariant.0).ends

pub returns-clause-back : goal.returns-clause-back
returns-clause-back c q =
    let last : c.loop-slot.slot-index ≡ length c.loop-slot.slots = omega (arith, c.loop-slot-test.false, c.loop-slot.auto.slots, c.loop-slot.auto.slot-index-end) in
    ap (λ slots. once_filled (λ o. o) (device_in c.loop-slot.devices) slots q) c.reverse.ensures.after
    ∙ (ended (has_slot c.args.devices.now) (device_in c.args.devices.now) c.args.slots.now (device_in c.loop-slot.devices) c.loop-slot.slots c.loop-slot.slot-index last c.loop-slot.invariant.0).back q

pub returns-clause-slots : goal.returns-clause-slots
returns-clause-slots c = c.loop-slot.invariant.1

pub returns-clause-there : goal.returns-clause-there
returns-clause-there c =
    let last : c.loop-slot.slot-index ≡ length c.loop-slot.slots = omega (arith, c.loop-slot-test.false, c.loop-slot.auto.slots, c.loop-slot.auto.slot-index-end) in
    subst (AllHave (has_slot c.loop-slot.devices)) (sym c.reverse.ensures.after)
    (have_more (has_slot c.args.devices.now) (has_slot c.loop-slot.devices) (λ q h. c.loop-slot.invariant.1 q ∙ h) _
    (ended (has_slot c.args.devices.now) (device_in c.args.devices.now) c.args.slots.now (device_in c.loop-slot.devices) c.loop-slot.slots c.loop-slot.slot-index last c.loop-slot.invariant.0).front_have)
