use Rattle.std.proofs.Common.{sym, ap}
use Rattle.desk_steps.specs.Founds.{ExchangesTiles, patched}
use Rattle.desk_steps.proofs.Devices.{lent_changes, lent_stands, still_devices, doc_adjusted, doc_back, standing_same, own_stands}
use Rattle.desk_steps.proofs.Patched.{exchange_laid, exchange_stands}
use Rattle.memento_core.proofs.Booked.{exchange_back, exchange_keys, exchange_notes}
use Rattle.desk_steps.proofs.document.Document.exchange.Goals as goal

pub invariant_of-self : goal.invariant_of-self
invariant_of-self g c = record { fits = still_devices c.args.self.now.slots (c.device_mut.follows.lender c.exchange.new.plane) c.args.id c.exchange.new.plane c.device_mut.result c.in-Some.device c.in-Some.is c.in-Some.ensures.value (c.device_mut.follows.holds c.exchange.new.plane) c.args.self.now.tree c.args.self.now.fits }

pub returns-clause-new : goal.returns-clause-new
returns-clause-new g c =
    let e = lent_changes c.args.self.now.slots (c.device_mut.follows.lender c.exchange.new.plane) c.args.id c.exchange.new.plane c.device_mut.result c.in-Some.device c.in-Some.is c.in-Some.ensures.value (c.device_mut.follows.holds c.exchange.new.plane) (ExchangesTiles c.args.found.now c.exchange.new.self)
    (record { tiles = c.exchange.ensures.exchanges; default_pixel = ap (λ s. s.default_pixel) c.exchange.ensures.rest }) in
    doc_adjusted c.args.self.now.slots (c.device_mut.follows.lender c.exchange.new.plane) c.args.id (ExchangesTiles c.args.found.now c.exchange.new.self) e c.args.self.now.tree (patched c.args.found.now)
    (exchange_laid c.args.found.now c.exchange.new.self e.before e.device e.holds)

pub returns-clause-back : goal.returns-clause-back
returns-clause-back g c =
    let e = lent_changes c.args.self.now.slots (c.device_mut.follows.lender c.exchange.new.plane) c.args.id c.exchange.new.plane c.device_mut.result c.in-Some.device c.in-Some.is c.in-Some.ensures.value (c.device_mut.follows.holds c.exchange.new.plane) (ExchangesTiles c.args.found.now c.exchange.new.self)
    (record { tiles = c.exchange.ensures.exchanges; default_pixel = ap (λ s. s.default_pixel) c.exchange.ensures.rest }) in
    doc_back c.args.self.now.slots (c.device_mut.follows.lender c.exchange.new.plane) c.args.id (ExchangesTiles c.args.found.now c.exchange.new.self) e c.args.self.now.tree (patched c.exchange.new.self)
    (sym (exchange_laid c.exchange.new.self c.args.found.now e.device e.before (record { tiles = exchange_back c.args.found.now c.exchange.new.self e.before.tiles e.device.tiles e.holds.tiles; default_pixel = sym e.holds.default_pixel })))

pub returns-clause-keys : goal.returns-clause-keys
returns-clause-keys g c =
    let e = lent_changes c.args.self.now.slots (c.device_mut.follows.lender c.exchange.new.plane) c.args.id c.exchange.new.plane c.device_mut.result c.in-Some.device c.in-Some.is c.in-Some.ensures.value (c.device_mut.follows.holds c.exchange.new.plane) (ExchangesTiles c.args.found.now c.exchange.new.self)
    (record { tiles = c.exchange.ensures.exchanges; default_pixel = ap (λ s. s.default_pixel) c.exchange.ensures.rest }) in
    exchange_notes c.args.found.now c.exchange.new.self e.before.tiles e.device.tiles e.holds.tiles

pub returns-clause-stand : goal.returns-clause-stand
returns-clause-stand g c =
    let e = lent_changes c.args.self.now.slots (c.device_mut.follows.lender c.exchange.new.plane) c.args.id c.exchange.new.plane c.device_mut.result c.in-Some.device c.in-Some.is c.in-Some.ensures.value (c.device_mut.follows.holds c.exchange.new.plane) (ExchangesTiles c.args.found.now c.exchange.new.self)
    (record { tiles = c.exchange.ensures.exchanges; default_pixel = ap (λ s. s.default_pixel) c.exchange.ensures.rest }) in
    own_stands c.args.self.now.slots (c.device_mut.follows.lender c.exchange.new.plane) c.args.id (ExchangesTiles c.args.found.now c.exchange.new.self) e c.exchange.new.self
    (exchange_stands c.args.found.now c.exchange.new.self e.before e.device e.holds (lent_stands _ e.before c.args.found.now (sym e.was) c.requires.there))

pub returns-clause-kept : goal.returns-clause-kept
returns-clause-kept g c =
    let e = lent_changes c.args.self.now.slots (c.device_mut.follows.lender c.exchange.new.plane) c.args.id c.exchange.new.plane c.device_mut.result c.in-Some.device c.in-Some.is c.in-Some.ensures.value (c.device_mut.follows.holds c.exchange.new.plane) (ExchangesTiles c.args.found.now c.exchange.new.self)
    (record { tiles = c.exchange.ensures.exchanges; default_pixel = ap (λ s. s.default_pixel) c.exchange.ensures.rest }) in
    standing_same c.args.self.now.slots (c.device_mut.follows.lender c.exchange.new.plane) c.args.id (ExchangesTiles c.args.found.now c.exchange.new.self) e
    (exchange_keys c.args.found.now c.exchange.new.self e.before.tiles e.device.tiles (lent_stands _ e.before c.args.found.now (sym e.was) c.requires.there) e.holds.tiles) c.args.self.now.tree
