use Rattle.std.proofs.Common.{◌≡◌, ◌∙◌, sym, ap, subst, arith}
use Rattle.std.proofs.lemmas.Result.{IfOk-weaker}
use Rattle.machine_model.specs.Groups.{path_of}
use Rattle.walker_core.specs.Paths.{tree_path, IsWalkOf}
use Rattle.walker_core.specs.Readings.{readings, childless}
use Rattle.std.specs.List.{IsDistinct}
use Rattle.std.specs.Prelude.{nat_eq}
use Rattle.slot_work.specs.Gathering.{filled, ReadsWalk}
use Rattle.slot_work.proofs.SamePaths.{path_same, walk_same, path_distinct}
use Rattle.slot_work.proofs.Filling.{reads_walk}
use Rattle.slot_work.proofs.gathering.gather.Goals as goal

pub plan-requires : goal.plan-requires
plan-requires c = subst (λ t. IsWalkOf t c.args.patch.walk) (sym c.tree.ensures.value) (walk_same c.args.patch.walk c.args.store.now.present c.requires)

pub returns : goal.returns
returns c =
    let listed : c.as_slice-list.result.now ≡ path_of c.args.patch.walk c.args.store.now.present = c.as_slice-list.ensures ∙ c.in_ok-groups.ensures.ok ∙ c.as_slice.ensures ∙ c.in_ok-path.ensures ∙ ap (tree_path c.args.patch.walk) c.tree.ensures.value ∙ path_same c.args.patch.walk c.args.store.now.present in
    let read : ReadsWalk c.args.store.now.present c.args.caches.now c.args.patch c.loop-group.gathered = reads_walk c.args.caches.now c.args.store.now.present c.args.patch c.loop-group.gathered c.as_slice-list.result.now c.loop-group.group-index (subst (IsDistinct nat_eq) (sym listed) (path_distinct c.args.patch.walk c.args.store.now.present c.tree.ensures.limits.tree)) listed (omega arith)
    (c.loop-group.invariant ∙ ap (λ r. filled c.args.caches.now c.args.store.now.present r c.as_slice-list.result.now) (c.new-gathered.ensures ∙ ap (λ ps. readings c.args.patch (childless ps)) (sym (c.as_slice-list.ensures ∙ c.in_ok-groups.ensures.ok ∙ c.as_slice.ensures)))) in
    IfOk-weaker c.new.result (λ r. r ≡ c.loop-group.gathered) (ReadsWalk c.args.store.now.present c.args.caches.now c.args.patch) (λ r e. subst (ReadsWalk c.args.store.now.present c.args.caches.now c.args.patch) (sym e) read) c.new.ensures
