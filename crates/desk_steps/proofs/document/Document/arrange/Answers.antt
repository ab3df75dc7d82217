use Rattle.std.proofs.Common.{◌≡◌, sym, ap, subst, ◌∙◌, arith}
use Rattle.std.specs.Vec.{with_items}
use Rattle.std.proofs.lemmas.List.{with_items_is}
use Rattle.tree_core.specs.Exchanges.{led}
use Rattle.desk_steps.specs.Slots.{AllHave, device_in, has_slot, once_filled}
use Rattle.desk_steps.proofs.Arranged.{other_has, other_shown, back_shown, other_stands, back_stands, back_fits}
use Rattle.desk_steps.proofs.Devices.{layer_under}
use Rattle.doc_model.proofs.Natural.{each_shape}
use Rattle.desk_steps.proofs.document.Document.arrange.Goals as goal

pub invariant_of-self : goal.invariant_of-self
invariant_of-self c = record {
  fits = other_has c.args.self.now c.args.other.now c.exchange.new.self c.deref_mut.result.now c.exchange_devices.new.devices c.exchange_devices.new.slots c.requires c.exchange.ensures.new c.deref_mut.ensures.value
      c.exchange_devices.ensures.new c.exchange_devices.ensures.back c.exchange_devices.ensures.slots;
}

pub returns-clause-new : goal.returns-clause-new
returns-clause-new c = other_shown c.args.self.now c.args.other.now c.exchange.new.self c.deref_mut.result.now c.exchange_devices.new.devices c.exchange_devices.new.slots c.requires c.exchange.ensures.new c.deref_mut.ensures.value
    c.exchange_devices.ensures.new c.exchange_devices.ensures.back c.exchange_devices.ensures.slots

pub returns-clause-stands : goal.returns-clause-stands
returns-clause-stands c = other_stands c.args.self.now c.args.other.now c.exchange.new.self c.deref_mut.result.now c.exchange_devices.new.devices c.exchange_devices.new.slots c.requires c.exchange.ensures.new c.deref_mut.ensures.value
    c.exchange_devices.ensures.new c.exchange_devices.ensures.back c.exchange_devices.ensures.slots

pub returns-clause-back : goal.returns-clause-back
returns-clause-back c =
    let left = with_items c.args.other.now.slots c.exchange_devices.new.slots in
    let same : left.items ≡ c.exchange_devices.new.slots = with_items_is c.args.other.now.slots c.exchange_devices.new.slots (omega (arith, c.exchange_devices.auto.slots, c.deref_mut.ensures.len)) in
    back_shown c.args.self.now c.args.other.now c.exchange.new.self c.deref_mut.result.now c.exchange_devices.new.devices left.items c.requires c.exchange.ensures.new c.deref_mut.ensures.value
    c.exchange_devices.ensures.new (λ q. ap (λ s. once_filled (λ o. o) (device_in c.exchange_devices.new.devices) s q) same ∙ c.exchange_devices.ensures.back q) c.exchange_devices.ensures.slots
    _ (ap (led c.exchange.new.other) (each_shape (layer_under (device_in c.exchange_devices.new.devices)) c.exchange.new.self) ∙ c.exchange.ensures.back)

pub returns-clause-stood : goal.returns-clause-stood
returns-clause-stood c =
    let left = with_items c.args.other.now.slots c.exchange_devices.new.slots in
    let same : left.items ≡ c.exchange_devices.new.slots = with_items_is c.args.other.now.slots c.exchange_devices.new.slots (omega (arith, c.exchange_devices.auto.slots, c.deref_mut.ensures.len)) in
    back_stands c.args.self.now c.args.other.now c.exchange.new.self c.deref_mut.result.now c.exchange_devices.new.devices left.items c.requires c.exchange.ensures.new c.deref_mut.ensures.value
    c.exchange_devices.ensures.new (λ q. ap (λ s. once_filled (λ o. o) (device_in c.exchange_devices.new.devices) s q) same ∙ c.exchange_devices.ensures.back q) c.exchange_devices.ensures.slots
    _ c.exchange.ensures.back

pub returns-clause-fits : goal.returns-clause-fits
returns-clause-fits c =
    let left = with_items c.args.other.now.slots c.exchange_devices.new.slots in
    let same : left.items ≡ c.exchange_devices.new.slots = with_items_is c.args.other.now.slots c.exchange_devices.new.slots (omega (arith, c.exchange_devices.auto.slots, c.deref_mut.ensures.len)) in
    record {
      leads = c.exchange.ensures.leads;
      layers = back_fits c.args.self.now c.args.other.now c.exchange.new.self c.deref_mut.result.now c.exchange_devices.new.devices left.items c.requires c.exchange.ensures.new c.deref_mut.ensures.value
          c.exchange_devices.ensures.new (λ q. ap (λ s. once_filled (λ o. o) (device_in c.exchange_devices.new.devices) s q) same ∙ c.exchange_devices.ensures.back q) c.exchange_devices.ensures.slots
          _ c.exchange.ensures.back;
      slots = subst (AllHave (has_slot c.exchange_devices.new.devices)) (sym same) c.exchange_devices.ensures.there;
    }
