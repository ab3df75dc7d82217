use Rattle.std.proofs.Common.{◌∙◌, sym, ap}
use Rattle.std.specs.FinMap as map
use Rattle.std.specs.BTreeMap as tree
use Rattle.geom_core.specs.Grid.{key_cmp}
use Rattle.tile_core.specs.Shots.{Sight}
use Rattle.tile_core.proofs.MapViews.{get-view}
use Rattle.tile_core.proofs.shot.Shot.tile.Goals as goal

pub returns : goal.returns
returns c = c.tile_under.ensures ∙ (λ i. tree.get key_cmp (c.deref.ensures i).tiles c.args.key) ∙ sym (get-view c.self.inside.seen.value.tiles c.args.key) ∙ ap (λ (s : Sight). map.get s.tiles c.args.key) c.self.view_is
