use Rattle.std.proofs.Common.{◌≡◌, None, rules, subst, sym, ap, is_some}
use Rattle.std.specs.Map.Iter.{deref_pair}
use Rattle.std.proofs.lemmas.Map.Iter.{btree_map_turn, rest_more, rest_all}
use Rattle.geom_core.specs.Keys.{key_cmp_total}
use Rattle.paint_device.proofs.Extents.{SpannedSoFar, none_spanned, one_spanned, spanned, spans_none}
use Rattle.paint_device.proofs.keyed.extent_of.Goals as goal

pub loop-key-init : goal.loop-key-init
loop-key-init c =
    let start : c.into_iter-key-iterator.result ≡ c.args.tiles.now.entries = search rules in
    subst (λ es. SpannedSoFar c.args.tiles.now None es) (sym start) (none_spanned c.args.tiles.now)

pub grown-extent-requires : goal.grown-extent-requires
grown-extent-requires c =
    let turn = btree_map_turn deref_pair c.loop-key.yielded c.into_iter-key-iterator.result c.loop-key.key-iterator c.next.new.self c.next.result (c.in-Some.key, c.in-Some.tile) c.loop-key.yielded_by c.in-Some.is c.next.ensures.steps key_cmp_total c.args.tiles.now (search rules) (search rules) in
    c.requires c.in-Some.key.now (ap is_some turn.1)

pub loop-key-preserved : goal.loop-key-preserved
loop-key-preserved c =
    let turn = btree_map_turn deref_pair c.loop-key.yielded c.into_iter-key-iterator.result c.loop-key.key-iterator c.next.new.self c.next.result (c.in-Some.key, c.in-Some.tile) c.loop-key.yielded_by c.in-Some.is c.next.ensures.steps key_cmp_total c.args.tiles.now (search rules) (search rules) in
    let rest = rest_more deref_pair c.loop-key.key-iterator c.next.new.self c.next.result (c.in-Some.key, c.in-Some.tile) c.in-Some.is c.next.ensures.steps in
    one_spanned c.args.tiles.now c.loop-key.extent c.grown-extent.result c.in-Some.key.now c.in-Some.tile.now c.next.new.self turn.1 c.grown-extent.ensures
    (subst (λ es. SpannedSoFar c.args.tiles.now c.loop-key.extent es) rest c.loop-key.invariant)

pub returns-clause-some : goal.returns-clause-some
returns-clause-some c = spanned c.args.tiles.now c.loop-key.extent c.loop-key.key-iterator (rest_all deref_pair c.loop-key.key-iterator c.next.new.self c.next.result c.in-None.is c.next.ensures.steps) c.loop-key.invariant

pub returns-clause-none : goal.returns-clause-none
returns-clause-none c = spans_none c.args.tiles.now c.loop-key.extent c.loop-key.key-iterator (rest_all deref_pair c.loop-key.key-iterator c.next.new.self c.next.result c.in-None.is c.next.ensures.steps) c.loop-key.invariant
