use Rattle.std.proofs.Common.{◌≡◌, ◌∙◌, sym, ap, arith}
use Rattle.doc_model.specs.Changes.{child_count}
use Rattle.doc_model.specs.Forest.{width}
use Rattle.machine_model.specs.Groups.{nodes_in, with_pixels}
use Rattle.slot_work.specs.Gathering.{with_children}
use Rattle.doc_model.proofs.SameTree.{child_count_each}
use Rattle.doc_model.proofs.NextChildren.{upper_all}
use Rattle.slot_work.proofs.gathering.add_children.Goals as goal

pub returns : goal.returns
returns c =
    let many : c.child_count-place-end.result ≡ width (nodes_in c.args.group c.args.store.now.present) = c.child_count-place-end.ensures.value ∙ ap (child_count c.args.group) c.tree.ensures.value ∙ child_count_each (λ n x. tt) c.args.group c.args.store.now.present in
    sym (ap (λ f. with_children c.loop-place.gathered c.args.group (with_pixels c.args.caches.now f)) (upper_all c.loop-place.place (nodes_in c.args.group c.args.store.now.present) (omega arith))) ∙ c.loop-place.invariant
