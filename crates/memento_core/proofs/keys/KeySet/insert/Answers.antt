use Rattle.std.proofs.Common.{◌<◌, not, length, subst, sym, ap, ◌∙◌, arith}
use Rattle.std.specs.Prelude.{All, ◌^◌, ◌-◌}
use Rattle.std.specs.FinSet as set
use Rattle.std.proofs.lemmas.Map.Views.{All-insert_key}
use Rattle.geom_core.specs.Grid.{key_cmp}
use Rattle.geom_core.specs.Keys.{IsWorldKey, key_cmp_total}
use Rattle.memento_core.proofs.Sets.{inserted_is, one_fits}
use Rattle.memento_core.proofs.keys.KeySet.insert.Goals as goal

pub invariant_of-self-2 : goal.invariant_of-self-2
invariant_of-self-2 c =
    let low : length c.self.inside.tiles.keys < 2 ^ 32 - 1 = omega (arith, c.len.ensures.len, c.if-len-ge-MOST_KEYS.false) in
    record {
      few = one_fits (length c.self.inside.tiles.keys) (length c.insert.new.self.keys) c.in_ok-added.added c.in_ok-added.ensures.len low;
      world = subst (All IsWorldKey) (sym c.in_ok-added.ensures.keys) (All-insert_key key_cmp c.args.key IsWorldKey c.self.inside.tiles.keys c.self.invariant.world c.requires);
    }

pub returns-clause-ok : goal.returns-clause-ok
returns-clause-ok c = inserted_is c.self.inside.tiles c.insert.new.self c.args.key c.in_ok-added.ensures.updates ∙ ap (λ s. set.insert s c.args.key) c.self.view_is

pub returns-clause-new : goal.returns-clause-new
returns-clause-new c = c.in_ok-added.ensures.added ∙ ap not (sym (set.contains-from_list key_cmp_total c.self.inside.tiles.keys c.args.key) ∙ ap (λ s. set.contains s c.args.key) c.self.view_is)
