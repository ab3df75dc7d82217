use Rattle.std.proofs.Common.{◌≡◌, ◌∙◌, sym, ap, true, false, refl}
use Rattle.std.proofs.lemmas.Result.{on_ok_weaker}
use Rattle.pixel_core.specs.Rgba.{clear}
use Rattle.doc_model.specs.Children.{look_in, child_in}
use Rattle.doc_model.specs.Forest.{has}
use Rattle.machine_model.specs.Groups.{with_pixels}
use Rattle.paint_device.specs.Seen.{layer_of}
use Rattle.group_caches.proofs.Layers.{empty_layer}
use Rattle.walker_core.specs.Readings.{with_child, child_on}
use Rattle.slot_work.specs.Gathering.{with_children}
use Rattle.doc_model.proofs.SameTree.{has_each, look_each, child_each}
use Rattle.doc_model.proofs.NextChildren.{child_there}
use Rattle.slot_work.proofs.NextChildren.{no_child}
use Rattle.slot_work.proofs.Filling.{child_added}
use Rattle.slot_work.proofs.gathering.add_child.Goals as goal

pub returns-in_default : goal.returns-in_default
returns-in_default c = ap (λ f. with_children c.args.gathered.now c.args.group (with_pixels c.args.caches.now f)) (sym (no_child c.args.group c.args.place c.args.store.now.present (sym (c.in_default.ensures ∙ ap (child_in c.args.group c.args.place) c.tree-tree.ensures.value ∙ child_each (λ n x. tt) c.args.group c.args.place c.args.store.now.present))))

pub returns-in_default-look : goal.returns-in_default-look
returns-in_default-look c = absurd (
    let away : has c.in-Some.id c.args.store.now.present ≡ false = sym (ap (has c.in-Some.id) c.tree-tree.ensures.value ∙ has_each (λ n x. tt) c.in-Some.id c.args.store.now.present) ∙ c.in_default-look.ensures.none.0 refl in
    let there : has c.in-Some.id c.args.store.now.present ≡ true = child_there c.args.group c.args.place c.in-Some.id c.args.store.now.present (sym (c.in-Some.ensures ∙ ap (child_in c.args.group c.args.place) c.tree-tree.ensures.value ∙ child_each (λ n x. tt) c.args.group c.args.place c.args.store.now.present)) in
    cc)

pub returns-in-Some-pixels_of : goal.returns-in-Some-pixels_of
returns-in-Some-pixels_of c = on_ok_weaker c.add_child.result
    (λ (e : c.add_child.new.self ≡ with_child c.args.gathered.now c.args.group (child_on c.args.gathered.now.patch.rect c.in-Some.id c.in-Some-look.look (layer_of c.in-Some-pixels_of.device.now))).
    child_added c.args.caches.now c.args.store.now.present c.args.group c.args.place c.in-Some.id c.in-Some-look.look c.args.gathered.now c.add_child.new.self (layer_of c.in-Some-pixels_of.device.now) c.tree-tree.ensures.limits.tree (sym (c.in-Some.ensures ∙ ap (child_in c.args.group c.args.place) c.tree-tree.ensures.value ∙ child_each (λ n x. tt) c.args.group c.args.place c.args.store.now.present)) (sym (c.in-Some-look.ensures.value ∙ ap (look_in c.in-Some.id) c.tree-tree.ensures.value ∙ look_each (λ n x. tt) c.in-Some.id c.args.store.now.present)) c.in-Some-pixels_of.ensures.some e)
    c.add_child.ensures.ok

pub returns-in-None : goal.returns-in-None
returns-in-None c = on_ok_weaker c.add_child-in-None.result
    (λ (e : c.add_child-in-None.new.self ≡ with_child c.args.gathered.now c.args.group (child_on c.args.gathered.now.patch.rect c.in-Some.id c.in-Some-look.look (layer_of c.new-clear.result))).
    child_added c.args.caches.now c.args.store.now.present c.args.group c.args.place c.in-Some.id c.in-Some-look.look c.args.gathered.now c.add_child-in-None.new.self (layer_of c.new-clear.result) c.tree-tree.ensures.limits.tree (sym (c.in-Some.ensures ∙ ap (child_in c.args.group c.args.place) c.tree-tree.ensures.value ∙ child_each (λ n x. tt) c.args.group c.args.place c.args.store.now.present)) (sym (c.in-Some-look.ensures.value ∙ ap (look_in c.in-Some.id) c.tree-tree.ensures.value ∙ look_each (λ n x. tt) c.in-Some.id c.args.store.now.present)) (empty_layer c.new-clear.result clear c.new-clear.ensures ∙ c.in-None.ensures.none) e)
    c.add_child-in-None.ensures.ok
