use Rattle.std.proofs.Common.{◌≡◌, ◌∙◌, ◌-◌, ◌≤◌, ap, arith, drop, get_or, length, take}
use Rattle.std.proofs.lemmas.List.{length-drop, take_all}
use Rattle.machine_model.specs.Walks.{walk_folded}
use Rattle.compose_core.specs.Piles.{pile_at}
use Rattle.compose_core.proofs.SpotPoints.{spot_held}
use Rattle.walker_core.specs.Lower.{next_group}
use Rattle.walker_core.specs.Rows.{values_of}
use Rattle.walker_core.specs.Views.{children_in}
use Rattle.walker_core.proofs.LowerOnes.{group_laid}
use Rattle.walker_core.proofs.row.compose_group.Goals as goal

pub returns-clause-given : goal.returns-clause-given
returns-clause-given c = λ p h k q.
    let next : get_or c.path.result.now (length c.args.below.now.given.now) 0 ≡ next_group c.args.inputs.now c.args.below.now = ap (λ ps. get_or ps (length c.args.below.now.given.now) 0) c.path.ensures in
    let many : length (drop c.in_ok-laid.laid.end c.sources-sources.result.now) ≡ length c.sources-sources.result.now - c.in_ok-laid.laid.end = length-drop c.in_ok-laid.laid.end c.sources-sources.result.now in
    let few : length (drop c.in_ok-laid.laid.end c.sources-sources.result.now) ≤ length c.sources-sources.result.now - c.in_ok-laid.laid.end = omega (arith, many) in
    let rest : take (length c.sources-sources.result.now - c.in_ok-laid.laid.end) (drop c.in_ok-laid.laid.end c.sources-sources.result.now) ≡ drop c.in_ok-laid.laid.end c.sources-sources.result.now
    = take_all _ _ few in
    c.in_ok-composed.ensures p (spot_held c.args.spot.now c.in_tile.result p c.requires.spot c.in_tile.ensures.value q)
    ∙ c.in_ok-lay_sources.ensures.laid c.args.inputs.now.patch.rect p h k
    ∙ ap (λ xs. walk_folded (values_of c.args.below.now.path.now c.args.below.now.given.now p) (children_in c.args.inputs.now.patch.rect (get_or c.path.result.now (length c.args.below.now.given.now) 0) xs) p (pile_at c.lay_lower.new.pile p)) rest
    ∙ ap (λ g. walk_folded (values_of c.args.below.now.path.now c.args.below.now.given.now p) (children_in c.args.inputs.now.patch.rect g (drop c.in_ok-laid.laid.end c.sources-sources.result.now)) p (pile_at c.lay_lower.new.pile p)) next
    ∙ group_laid c.args.inputs.now c.sources-sources.result.now c.args.spot.now.key c.args.below.now c.in_ok-laid.laid.end p (pile_at c.lay_lower.new.pile p) c.sources-sources.ensures c.requires.below h k (c.in_ok-laid.ensures.laid p h q)
