use Rattle.std.proofs.Common.{ap, ◌∙◌}
use Rattle.std.specs.FinMap as map
use Rattle.tile_core.proofs.Copied.{same_views}
use Rattle.tile_core.proofs.MapViews.{view-put}
use Rattle.tile_core.proofs.shot.seen_with.Goals as goal

pub returns-clause-tiles : goal.returns-clause-tiles
returns-clause-tiles c = view-put c.in_ok-tiles.tiles c.put_under.new.tiles c.args.key c.args.tile c.in_ok-put_under.ensures.ok
    ∙ ap (λ m. map.insert m c.args.key c.args.tile) (same_views c.args.seen.now.tiles c.in_ok-tiles.tiles c.in_ok-tiles.ensures)
