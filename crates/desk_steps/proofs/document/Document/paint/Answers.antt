use Rattle.std.proofs.Common.{◌≡◌, refl}
use Rattle.job_core.specs.Points.{all_painted_in}
use Rattle.paint_device.specs.Seen.{layer_of}
use Rattle.paint_device.specs.Sheets.{Sheet}
use Rattle.desk_steps.specs.Founds.{GivesBack}
use Rattle.desk_steps.proofs.Devices.{doc_adjusted, doc_same, lent_changes, regained, still_devices, more_ok, more_err}
use Rattle.desk_steps.proofs.document.Document.paint.Goals as goal

pub invariant_of-self : goal.invariant_of-self
invariant_of-self c = record { fits = still_devices c.args.self.now.slots (c.device_mut.follows.lender c.paint.new.device) c.args.id c.paint.new.device c.device_mut.result c.in-Some.device c.in-Some.is c.in-Some.ensures.value (c.device_mut.follows.holds c.paint.new.device) c.args.self.now.tree c.args.self.now.fits }

pub returns-clause-ok : goal.returns-clause-ok
returns-clause-ok c =
    let f = all_painted_in c.args.work.now.jobs c.args.work.now.key in
    let R : Sheet → Sheet → Type 0 = λ old new. layer_of new ≡ f (layer_of old) in
    more_ok c.paint.result
    (λ e.
    let changes = lent_changes c.args.self.now.slots (c.device_mut.follows.lender c.paint.new.device) c.args.id c.paint.new.device c.device_mut.result c.in-Some.device c.in-Some.is c.in-Some.ensures.value (c.device_mut.follows.holds c.paint.new.device) R e in
    doc_adjusted c.args.self.now.slots (c.device_mut.follows.lender c.paint.new.device) c.args.id R changes c.args.self.now.tree f changes.holds)
    c.paint.ensures.ok

pub returns-clause-back : goal.returns-clause-back
returns-clause-back c = regained c.args.self.now _ c.args.id c.args.found.now c.paint.new.found refl
    (lent_changes c.args.self.now.slots (c.device_mut.follows.lender c.paint.new.device) c.args.id c.paint.new.device c.device_mut.result c.in-Some.device c.in-Some.is c.in-Some.ensures.value (c.device_mut.follows.holds c.paint.new.device) (GivesBack c.args.found.now c.paint.new.found) c.paint.ensures.back)

pub returns-clause-err : goal.returns-clause-err
returns-clause-err c =
    let R : Sheet → Sheet → Type 0 = λ old new. layer_of new ≡ layer_of old in
    more_err c.paint.result
    (λ e.
    let changes = lent_changes c.args.self.now.slots (c.device_mut.follows.lender c.paint.new.device) c.args.id c.paint.new.device c.device_mut.result c.in-Some.device c.in-Some.is c.in-Some.ensures.value (c.device_mut.follows.holds c.paint.new.device) R e in
    doc_same c.args.self.now.slots (c.device_mut.follows.lender c.paint.new.device) c.args.id R changes c.args.self.now.tree changes.holds)
    c.paint.ensures.err
