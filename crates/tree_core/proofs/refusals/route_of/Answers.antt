use Rattle.std.proofs.Common.{ap, ◌∙◌, sym, Some, ◌≤◌, ◌<◌, ◌-◌, ◌&&◌, not, cond, ltb, arith}
use Rattle.tree_core.specs.Nodes.{start_in}
use Rattle.tree_core.proofs.Depths.{depth_low}
use Rattle.tree_core.proofs.Places.{told_there, told_lacking}
use Rattle.tree_core.proofs.Others.{begins_in, begins_beside}
use Rattle.tree_core.proofs.Routes.{lost, no_group, from_is, into, deep, short, enough, goes}
use Rattle.tree_core.proofs.refusals.route_of.Goals as goal

pub returns-then-branch-clause-err : goal.returns-then-branch-clause-err
returns-then-branch-clause-err c = lost c.args.id c.args.parent c.args.place c.args.nodes.now c.requires.kept c.span-branch.result.start c.span-branch.result.end c.span-branch.ensures.order c.span-branch.ensures.within c.span-branch.ensures.branch c.if-branch.true

pub returns-in_default-clause-err : goal.returns-in_default-clause-err
returns-in_default-clause-err c = no_group c.args.id c.args.parent c.args.place c.args.nodes.now c.requires.kept c.span-branch.result.start c.span-branch.result.end c.span-branch.ensures.order c.span-branch.ensures.within c.span-branch.ensures.branch c.if-branch.false (sym c.in_default.ensures.there) ∙ ap Some (sym c.no_group.ensures)

pub returns-then-stands_in-clause-err : goal.returns-then-stands_in-clause-err
returns-then-stands_in-clause-err c =
    let h : (c.span-branch.result.start < start_in c.args.parent c.args.nodes.now) × (start_in c.args.parent c.args.nodes.now ≤ c.span-branch.result.end) = begins_in c.span-branch.result.start c.span-branch.result.end (start_in c.args.parent c.args.nodes.now) (ap (λ n. ltb c.span-branch.result.start n && not (ltb c.span-branch.result.end n)) (sym c.in-Some.ensures.start) ∙ sym c.stands_in.ensures ∙ c.if-stands_in.true) in
    into c.args.id c.args.parent c.args.place c.args.nodes.now c.requires.kept c.span-branch.result.start c.span-branch.result.end c.span-branch.ensures.order c.span-branch.ensures.within c.span-branch.ensures.branch c.if-branch.false (sym c.in-Some.ensures.there) h.0 h.1

pub returns-then-group-levels-clause-err : goal.returns-then-group-levels-clause-err
returns-then-group-levels-clause-err c = deep c.args.id c.args.parent c.args.place c.args.nodes.now c.requires.kept c.span-branch.result.start c.span-branch.result.end c.span-branch.ensures.order c.span-branch.ensures.within c.span-branch.ensures.branch c.if-branch.false (sym c.in-Some.ensures.there) (begins_beside c.span-branch.result.start c.span-branch.result.end (start_in c.args.parent c.args.nodes.now) (ap (λ n. ltb c.span-branch.result.start n && not (ltb c.span-branch.result.end n)) (sym c.in-Some.ensures.start) ∙ sym c.stands_in.ensures ∙ c.if-stands_in.false)) c.in-Some.group.depth c.levels.result c.in-Some.ensures.depth c.levels.ensures.value c.if-group-levels.true

pub start_beside-requires-clause-outside : goal.start_beside-requires-clause-outside
start_beside-requires-clause-outside c = begins_beside c.span-branch.result.start c.span-branch.result.end c.in-Some.group.start (sym c.stands_in.ensures ∙ c.if-stands_in.false)

pub overflow_add-result : goal.overflow_add-result
overflow_add-result c = omega (arith, from_is c.args.id c.args.parent c.args.place c.args.nodes.now c.requires.kept c.span-branch.result.start c.span-branch.result.end c.span-branch.ensures.order c.span-branch.ensures.within c.span-branch.ensures.branch c.if-branch.false, depth_low c.args.id c.args.nodes.now c.requires.kept)

pub returns-in-Some-place_at-clause-ok : goal.returns-in-Some-place_at-clause-ok
returns-in-Some-place_at-clause-ok c = enough c.args.id c.args.parent c.args.place c.args.nodes.now c.requires.kept c.span-branch.result.start c.span-branch.result.end c.span-branch.ensures.order c.span-branch.ensures.within c.span-branch.ensures.branch c.if-branch.false (sym c.in-Some.ensures.there) (begins_beside c.span-branch.result.start c.span-branch.result.end (start_in c.args.parent c.args.nodes.now) (ap (λ n. ltb c.span-branch.result.start n && not (ltb c.span-branch.result.end n)) (sym c.in-Some.ensures.start) ∙ sym c.stands_in.ensures ∙ c.if-stands_in.false)) c.in-Some.group.depth c.levels.result c.in-Some.ensures.depth c.levels.ensures.value c.if-group-levels.false c.span-branch.ensures.kept c.span-branch.ensures.left c.start_beside.result (c.start_beside.ensures ∙ ap (λ n. cond (ltb c.span-branch.result.start n) (n - (c.span-branch.result.end - c.span-branch.result.start)) n) c.in-Some.ensures.start) (told_there _ c.in-Some-place_at.ensures.there)

pub returns-in-Some-place_at-clause-moved : goal.returns-in-Some-place_at-clause-moved
returns-in-Some-place_at-clause-moved c = goes c.args.id c.args.parent c.args.place c.args.nodes.now c.requires.kept c.span-branch.result.start c.span-branch.result.end c.span-branch.ensures.order c.span-branch.ensures.within c.span-branch.ensures.branch c.if-branch.false (sym c.in-Some.ensures.there) (begins_beside c.span-branch.result.start c.span-branch.result.end (start_in c.args.parent c.args.nodes.now) (ap (λ n. ltb c.span-branch.result.start n && not (ltb c.span-branch.result.end n)) (sym c.in-Some.ensures.start) ∙ sym c.stands_in.ensures ∙ c.if-stands_in.false)) c.in-Some.group.depth c.levels.result c.in-Some.ensures.depth c.levels.ensures.value c.if-group-levels.false c.span-branch.ensures.kept c.span-branch.ensures.left c.start_beside.result (c.start_beside.ensures ∙ ap (λ n. cond (ltb c.span-branch.result.start n) (n - (c.span-branch.result.end - c.span-branch.result.start)) n) c.in-Some.ensures.start) _ c.in-Some-place_at.at (from_is c.args.id c.args.parent c.args.place c.args.nodes.now c.requires.kept c.span-branch.result.start c.span-branch.result.end c.span-branch.ensures.order c.span-branch.ensures.within c.span-branch.ensures.branch c.if-branch.false _) c.in-Some-place_at.ensures.at

pub returns-in-None-clause-err : goal.returns-in-None-clause-err
returns-in-None-clause-err c = short c.args.id c.args.parent c.args.place c.args.nodes.now c.requires.kept c.span-branch.result.start c.span-branch.result.end c.span-branch.ensures.order c.span-branch.ensures.within c.span-branch.ensures.branch c.if-branch.false (sym c.in-Some.ensures.there) (begins_beside c.span-branch.result.start c.span-branch.result.end (start_in c.args.parent c.args.nodes.now) (ap (λ n. ltb c.span-branch.result.start n && not (ltb c.span-branch.result.end n)) (sym c.in-Some.ensures.start) ∙ sym c.stands_in.ensures ∙ c.if-stands_in.false)) c.in-Some.group.depth c.levels.result c.in-Some.ensures.depth c.levels.ensures.value c.if-group-levels.false c.span-branch.ensures.kept c.span-branch.ensures.left c.start_beside.result (c.start_beside.ensures ∙ ap (λ n. cond (ltb c.span-branch.result.start n) (n - (c.span-branch.result.end - c.span-branch.result.start)) n) c.in-Some.ensures.start) (told_lacking _ c.in-None.ensures.there)
