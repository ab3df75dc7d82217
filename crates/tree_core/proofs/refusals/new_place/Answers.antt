use Rattle.std.proofs.Common.{◌≡◌, drop, sym, ap, ◌∙◌, ltb, arith}
use Rattle.doc_model.specs.Forest.{depth, width}
use Rattle.doc_model.specs.Flat.{read}
use Rattle.doc_model.specs.Changes.{child_count}
use Rattle.tree_core.specs.Nodes.{rows_of, tree_of}
use Rattle.tree_core.proofs.Kept.{count_is}
use Rattle.tree_core.proofs.Depths.{depth_low}
use Rattle.tree_core.proofs.Kids.{children_now}
use Rattle.tree_core.proofs.Places.{told_there, told_lacking}
use Rattle.tree_core.proofs.Refused.{new_other, new_full, new_too_deep, new_bad_place, new_good_place}
use Rattle.tree_core.proofs.refusals.new_place.Goals as goal

pub returns-then-nodes-clause-err : goal.returns-then-nodes-clause-err
returns-then-nodes-clause-err c = new_full c.args.id c.args.parent c.args.place (tree_of c.args.nodes.now) (new_other c.args.id (tree_of c.args.nodes.now) c.if-id-eq0.false (sym c.holds.ensures ∙ c.if-holds.false)) (sym c.in-Some.ensures.there) (sym (count_is c.args.nodes.now c.requires.kept) ∙ c.if-nodes.true)

pub overflow_add-group : goal.overflow_add-group
overflow_add-group c = let d : c.in-Some.group.depth ≡ depth c.args.parent (tree_of c.args.nodes.now) = c.in-Some.ensures.depth in omega (arith, depth_low c.args.parent c.args.nodes.now c.requires.kept)

pub returns-then-group-gt-MOST_DEPTH-clause-err : goal.returns-then-group-gt-MOST_DEPTH-clause-err
returns-then-group-gt-MOST_DEPTH-clause-err c = new_too_deep c.args.id c.args.parent c.args.place (tree_of c.args.nodes.now) (new_other c.args.id (tree_of c.args.nodes.now) c.if-id-eq0.false (sym c.holds.ensures ∙ c.if-holds.false)) (sym c.in-Some.ensures.there)
    (λ e. c.if-nodes.false (count_is c.args.nodes.now c.requires.kept ∙ e)) (let d : c.in-Some.group.depth ≡ depth c.args.parent (tree_of c.args.nodes.now) = c.in-Some.ensures.depth in omega (arith, c.if-group-gt-MOST_DEPTH.true))

pub returns-in-Some-place_at-clause-ok : goal.returns-in-Some-place_at-clause-ok
returns-in-Some-place_at-clause-ok c =
    let counted : width (read c.in-Some.group.depth (rows_of (drop c.in-Some.group.start c.args.nodes.now))) ≡ child_count c.args.parent (tree_of c.args.nodes.now) =
    children_now c.args.parent c.args.nodes.now (tree_of c.args.nodes.now) c.requires.kept (λ _. tree_of c.args.nodes.now) (sym c.in-Some.ensures.there) c.in-Some.group.depth (drop c.in-Some.group.start c.args.nodes.now) c.in-Some.ensures.depth (ap (λ n. drop n c.args.nodes.now) c.in-Some.ensures.start) in
    new_good_place c.args.id c.args.parent c.args.place (tree_of c.args.nodes.now) (new_other c.args.id (tree_of c.args.nodes.now) c.if-id-eq0.false (sym c.holds.ensures ∙ c.if-holds.false)) (sym c.in-Some.ensures.there)
    (λ e. c.if-nodes.false (count_is c.args.nodes.now c.requires.kept ∙ e)) (let d : c.in-Some.group.depth ≡ depth c.args.parent (tree_of c.args.nodes.now) = c.in-Some.ensures.depth in omega (arith, c.if-group-gt-MOST_DEPTH.false))
    (ap (λ n. ltb n c.args.place) (sym counted) ∙ told_there _ c.in-Some-place_at.ensures.there)

pub returns-in-None-clause-err : goal.returns-in-None-clause-err
returns-in-None-clause-err c =
    let counted : width (read c.in-Some.group.depth (rows_of (drop c.in-Some.group.start c.args.nodes.now))) ≡ child_count c.args.parent (tree_of c.args.nodes.now) =
    children_now c.args.parent c.args.nodes.now (tree_of c.args.nodes.now) c.requires.kept (λ _. tree_of c.args.nodes.now) (sym c.in-Some.ensures.there) c.in-Some.group.depth (drop c.in-Some.group.start c.args.nodes.now) c.in-Some.ensures.depth (ap (λ n. drop n c.args.nodes.now) c.in-Some.ensures.start) in
    new_bad_place c.args.id c.args.parent c.args.place (tree_of c.args.nodes.now) (new_other c.args.id (tree_of c.args.nodes.now) c.if-id-eq0.false (sym c.holds.ensures ∙ c.if-holds.false)) (sym c.in-Some.ensures.there)
    (λ e. c.if-nodes.false (count_is c.args.nodes.now c.requires.kept ∙ e)) (let d : c.in-Some.group.depth ≡ depth c.args.parent (tree_of c.args.nodes.now) = c.in-Some.ensures.depth in omega (arith, c.if-group-gt-MOST_DEPTH.false))
    (ap (λ n. ltb n c.args.place) (sym counted) ∙ told_lacking _ c.in-None.ensures.there)
