use Rattle.std.proofs.Common.{rules, subst}
use Rattle.std.specs.Map.Iter.{deref_pair}
use Rattle.std.proofs.lemmas.Map.Iter.{btree_map_turn, rest_more, rest_all}
use Rattle.geom_core.specs.Keys.{key_cmp_total}
use Rattle.tile_core.specs.Maps.{PutsUnder}
use Rattle.tile_core.proofs.Copied.{CopiedSoFar, none_copied, one_copied, all_copied}
use Rattle.tile_core.proofs.keyed.shared_tiles.Goals as goal

pub loop-key-init : goal.loop-key-init
loop-key-init c = none_copied c.args.tiles.now c.new-shared.result c.into_iter-key-iterator.result (search rules) (search rules)

pub loop-key-preserved : goal.loop-key-preserved
loop-key-preserved c =
    let turn = btree_map_turn deref_pair c.loop-key.yielded c.into_iter-key-iterator.result c.loop-key.key-iterator c.next.new.self c.next.result (c.in-Some.key, c.in-Some.tile) c.loop-key.yielded_by c.in-Some.is c.next.ensures.steps key_cmp_total c.args.tiles.now (search rules) (search rules) in
    let rest = rest_more deref_pair c.loop-key.key-iterator c.next.new.self c.next.result (c.in-Some.key, c.in-Some.tile) c.in-Some.is c.next.ensures.steps in
    one_copied c.args.tiles.now c.loop-key.shared c.put_under.new.tiles c.in-Some.key.now c.in-Some.tile.now c.next.new.self turn.1
    (subst (λ t. PutsUnder c.loop-key.shared c.put_under.new.tiles c.in-Some.key.now t) c.in_ok-share.ensures c.in_ok-put_under.ensures.ok)
    (subst (λ es. CopiedSoFar c.args.tiles.now c.loop-key.shared es) rest c.loop-key.invariant)

pub returns : goal.returns
returns c = all_copied c.args.tiles.now c.loop-key.shared c.loop-key.key-iterator (rest_all deref_pair c.loop-key.key-iterator c.next.new.self c.next.result c.in-None.is c.next.ensures.steps) c.loop-key.invariant
