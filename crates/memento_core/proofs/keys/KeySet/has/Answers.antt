use Rattle.std.proofs.Common.{sym, ap, ◌∙◌}
use Rattle.std.specs.FinSet as set
use Rattle.geom_core.specs.Keys.{key_cmp_total}
use Rattle.memento_core.proofs.keys.KeySet.has.Goals as goal

pub returns : goal.returns
returns c = c.contains.ensures ∙ sym (set.contains-from_list key_cmp_total c.self.inside.tiles.keys c.args.key) ∙ ap (λ s. set.contains s c.args.key) c.self.view_is
