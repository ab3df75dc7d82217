use Rattle.std.proofs.Common.{ap, ◌∙◌}
use Rattle.std.proofs.lemmas.Result.{IfOk-weaker}
use Rattle.std.specs.FinMap as map
use Rattle.geom_core.specs.Grid.{key_cmp}
use Rattle.tile_core.specs.Maps.{PutsUnder}
use Rattle.tile_core.specs.Shots.{sight}
use Rattle.tile_core.proofs.MapViews.{view-put}
use Rattle.tile_core.proofs.shot.Shot.put.Goals as goal

pub returns-in-Some-clause-ok : goal.returns-in-Some-clause-ok
returns-in-Some-clause-ok c = rw (← c.self.view_is, ← c.in_ok-tile.ensures) (IfOk-weaker c.put_under.result (λ _. PutsUnder c.in-Some.seen.now.tiles c.put_under.new.tiles c.args.key c.in_ok-tile.tile) _
    (λ _ p. ap (sight c.self.inside.ground c.in-Some.seen.now.rects.items) (view-put c.in-Some.seen.now.tiles c.put_under.new.tiles c.args.key c.in_ok-tile.tile p)
    ∙ (λ i. sight c.self.inside.ground (c.in-Some.ensures.value i).rects.items (map.insert (map.from_entries {R = key_cmp} (c.in-Some.ensures.value i).tiles.entries) c.args.key c.in_ok-tile.tile))) c.put_under.ensures.ok)
