use Rattle.std.proofs.Common.{◌≡◌, Ok, Err, sym, ap, ◌∙◌}
use Rattle.doc_model.specs.Each.{each}
use Rattle.doc_model.specs.Changes.{changed}
use Rattle.doc_model.proofs.Weights.{tree_distinct}
use Rattle.machine_model.specs.Effects.{layer_in}
use Rattle.tree_core.specs.Exchanges.{led}
use Rattle.desk_steps.specs.Documents.{doc_in}
use Rattle.desk_steps.specs.Slots.{device_in, devices_after, layer_or, once_filled}
use Rattle.desk_steps.proofs.Devices.{doc_refused, layer_under, refusal_same}
use Rattle.doc_model.proofs.Natural.{each_shape}
use Rattle.desk_steps.proofs.Arranged.{change_shown, change_fits}
use Rattle.desk_steps.proofs.document.Document.changed.Goals as goal

pub returns-in_ok-tree-in-Ok-clause-ok : goal.returns-in_ok-tree-in-Ok-clause-ok
returns-in_ok-tree-in-Ok-clause-ok c =
    let old = c.args.self.now in
    let slots = c.in_ok-slots-in-Ok.slots.items in
    let other = led c.in_ok-tree-in-Ok.tree old.tree in
    let made : changed {A = Unit {0}} (λ pixel. tt) c.args.change.now old.tree ≡ Ok other =
    ap (changed {A = Unit {0}} (λ pixel. tt) c.args.change.now) (sym c.copy-tree.ensures) ∙ c.in-Ok.ensures.ok ∙ ap Ok (sym c.in_ok-tree-in-Ok.ensures.ok) in
    change_shown c.args.change.now old.tree other (device_in old.slots) made old.fits slots
    (λ q. c.in_ok-slots-in-Ok.ensures.ok q ∙ ap (λ t. devices_after c.args.change.now t (device_in old.slots) q) (sym c.in_ok-tree-in-Ok.ensures.ok))
    ∙ ap (λ t. Ok (each (λ q u. once_filled layer_or (λ p. layer_in p (doc_in old)) slots q) (led c.in_ok-tree-in-Ok.tree t))) (sym (each_shape (layer_under (device_in old.slots)) old.tree))

pub returns-in_ok-tree-in-Ok-clause-fits : goal.returns-in_ok-tree-in-Ok-clause-fits
returns-in_ok-tree-in-Ok-clause-fits c =
    let old = c.args.self.now in
    let other = led c.in_ok-tree-in-Ok.tree old.tree in
    let made : changed {A = Unit {0}} (λ pixel. tt) c.args.change.now old.tree ≡ Ok other =
    ap (changed {A = Unit {0}} (λ pixel. tt) c.args.change.now) (sym c.copy-tree.ensures) ∙ c.in-Ok.ensures.ok ∙ ap Ok (sym c.in_ok-tree-in-Ok.ensures.ok) in
    record {
      leads = c.in_ok-tree-in-Ok.ensures.leads;
      layers = change_fits c.args.change.now old.tree other (device_in old.slots) made old.fits c.in_ok-slots-in-Ok.slots.items
          (λ q. c.in_ok-slots-in-Ok.ensures.ok q ∙ ap (λ t. devices_after c.args.change.now t (device_in old.slots) q) (sym c.in_ok-tree-in-Ok.ensures.ok))
          (tree_distinct old.tree c.node_count-count.ensures.limits.tree) c.slots_of.new.devices c.slots_of.ensures.same;
      slots = c.in_ok-slots-in-Ok.ensures.there;
    }

pub returns-in-Err-clause-tree : goal.returns-in-Err-clause-tree
returns-in-Err-clause-tree c fault same =
    let refused : changed {A = Unit {0}} (λ pixel. tt) c.args.change.now c.args.self.now.tree ≡ Err c.in-Err.fault = ap (changed {A = Unit {0}} (λ pixel. tt) c.args.change.now) (sym c.copy-tree.ensures) ∙ c.in-Err.ensures.err in
    doc_refused c.args.change.now c.args.self.now.tree (device_in c.args.self.now.slots) c.in-Err.fault refused ∙ ap Err (refusal_same c.in-Err.fault fault same)
