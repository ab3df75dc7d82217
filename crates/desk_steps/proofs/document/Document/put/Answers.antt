use Rattle.std.proofs.Common.{◌≡◌, refl}
use Rattle.doc_model.specs.Shots.{published}
use Rattle.job_core.specs.Paints as paints
use Rattle.paint_device.specs.Seen.{layer_of}
use Rattle.paint_device.specs.Sheets.{Sheet}
use Rattle.desk_steps.specs.Founds.{GivesBack}
use Rattle.desk_steps.proofs.Devices.{doc_adjusted, doc_same, lent_changes, regained, still_devices, more_ok, more_err}
use Rattle.desk_steps.proofs.document.Document.put.Goals as goal

pub invariant_of-self : goal.invariant_of-self
invariant_of-self c = record { fits = still_devices c.args.self.now.slots (c.device_mut.follows.lender c.lay.new.device) c.args.id c.lay.new.device c.device_mut.result c.in-Some.device c.in-Some.is c.in-Some.ensures.value (c.device_mut.follows.holds c.lay.new.device) c.args.self.now.tree c.args.self.now.fits }

pub returns-clause-ok : goal.returns-clause-ok
returns-clause-ok c w m =
    let f = published w.job (paints.layer_of w.shot) w.key in
    let R : Sheet → Sheet → Type 0 = λ old new. layer_of new ≡ f (layer_of old) in
    more_ok c.lay.result
    (λ e.
    let changes = lent_changes c.args.self.now.slots (c.device_mut.follows.lender c.lay.new.device) c.args.id c.lay.new.device c.device_mut.result c.in-Some.device c.in-Some.is c.in-Some.ensures.value (c.device_mut.follows.holds c.lay.new.device) R e in
    doc_adjusted c.args.self.now.slots (c.device_mut.follows.lender c.lay.new.device) c.args.id R changes c.args.self.now.tree f changes.holds)
    (c.lay.ensures.ok w m)

pub returns-clause-back : goal.returns-clause-back
returns-clause-back c = regained c.args.self.now _ c.args.id c.args.found.now c.lay.new.found refl
    (lent_changes c.args.self.now.slots (c.device_mut.follows.lender c.lay.new.device) c.args.id c.lay.new.device c.device_mut.result c.in-Some.device c.in-Some.is c.in-Some.ensures.value (c.device_mut.follows.holds c.lay.new.device) (GivesBack c.args.found.now c.lay.new.found) c.lay.ensures.back)

pub returns-clause-err : goal.returns-clause-err
returns-clause-err c =
    let R : Sheet → Sheet → Type 0 = λ old new. layer_of new ≡ layer_of old in
    more_err c.lay.result
    (λ e.
    let changes = lent_changes c.args.self.now.slots (c.device_mut.follows.lender c.lay.new.device) c.args.id c.lay.new.device c.device_mut.result c.in-Some.device c.in-Some.is c.in-Some.ensures.value (c.device_mut.follows.holds c.lay.new.device) R e in
    doc_same c.args.self.now.slots (c.device_mut.follows.lender c.lay.new.device) c.args.id R changes c.args.self.now.tree changes.holds)
    c.lay.ensures.err
