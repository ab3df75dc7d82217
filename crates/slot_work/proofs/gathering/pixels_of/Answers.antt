use Rattle.std.proofs.Common.{◌∙◌, sym, ap}
use Rattle.doc_model.specs.Changes.{takes}
use Rattle.doc_model.proofs.SameTree.{takes_each}
use Rattle.slot_work.proofs.Filling.{group_pixels, no_group_pixels, layer_pixels, no_layer_pixels}
use Rattle.slot_work.proofs.gathering.pixels_of.Goals as goal

pub returns-then-is_group-clause-some : goal.returns-then-is_group-clause-some
returns-then-is_group-clause-some c = group_pixels c.args.caches.now c.args.store.now.present c.args.id c.device.result (sym (takes_each (λ n x. tt) c.args.id c.args.store.now.present) ∙ sym (ap (takes c.args.id) c.tree.ensures.value) ∙ sym c.is_group.ensures ∙ c.if-is_group.true) c.device.ensures.some

pub returns-then-is_group-clause-none : goal.returns-then-is_group-clause-none
returns-then-is_group-clause-none c = no_group_pixels c.args.caches.now c.args.store.now.present c.args.id c.device.result (sym (takes_each (λ n x. tt) c.args.id c.args.store.now.present) ∙ sym (ap (takes c.args.id) c.tree.ensures.value) ∙ sym c.is_group.ensures ∙ c.if-is_group.true) c.device.ensures.there

pub returns-else-is_group-clause-some : goal.returns-else-is_group-clause-some
returns-else-is_group-clause-some c = layer_pixels c.args.caches.now c.args.store.now.present c.args.id c.layer.result (sym (takes_each (λ n x. tt) c.args.id c.args.store.now.present) ∙ sym (ap (takes c.args.id) c.tree.ensures.value) ∙ sym c.is_group.ensures ∙ c.if-is_group.false) c.layer.ensures.some

pub returns-else-is_group-clause-none : goal.returns-else-is_group-clause-none
returns-else-is_group-clause-none c = no_layer_pixels c.args.caches.now c.args.store.now.present c.args.id c.layer.result (sym (takes_each (λ n x. tt) c.args.id c.args.store.now.present) ∙ sym (ap (takes c.args.id) c.tree.ensures.value) ∙ sym c.is_group.ensures ∙ c.if-is_group.false) c.layer.ensures.none
