use Rattle.std.proofs.Common.{Some, ap, rules, subst, sym}
use Rattle.std.specs.Map.Iter.{deref}
use Rattle.std.proofs.lemmas.Map.Iter.{rest_more, rest_all}
use Rattle.std.proofs.lemmas.Map.Views.{All-turn}
use Rattle.geom_core.specs.Keys.{IsWorldKey}
use Rattle.geom_core.proofs.Rounds.{RoundSoFar, none_round, one_round, all_round, set_round}
use Rattle.memento_core.proofs.keys.bound_of.Goals as goal

pub loop-key-init : goal.loop-key-init
loop-key-init c = none_round c.args.tiles.now.keys c.into_iter-key-iterator.result (search rules)

pub rect-requires : goal.rect-requires
rect-requires c = All-turn deref IsWorldKey _ _ _ _ _ _ _ c.requires (search rules) c.loop-key.yielded_by c.in-Some.is c.next.ensures.steps

pub loop-key-preserved : goal.loop-key-preserved
loop-key-preserved c =
    let rest = rest_more deref c.loop-key.key-iterator c.next.new.self c.next.result c.in-Some.key c.in-Some.is c.next.ensures.steps in
    subst (λ o. RoundSoFar c.args.tiles.now.keys o c.next.new.self) (sym (ap Some c.round.ensures))
    (one_round c.args.tiles.now.keys c.next.new.self c.loop-key.bound c.in-Some.key.now c.rect.result c.rect.ensures (subst (RoundSoFar c.args.tiles.now.keys c.loop-key.bound) rest c.loop-key.invariant))

pub returns : goal.returns
returns c = set_round c.loop-key.bound c.args.tiles.now.keys (all_round c.args.tiles.now.keys c.loop-key.key-iterator c.loop-key.bound (rest_all deref c.loop-key.key-iterator c.next.new.self c.next.result c.in-None.is c.next.ensures.steps) c.loop-key.invariant)
