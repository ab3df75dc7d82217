use Rattle.std.proofs.Common.{ap, ◌∙◌}
use Rattle.std.specs.Prelude.{slice_get}
use Rattle.whole_tiles.specs.Plans.{Plan, tiles_of}
use Rattle.whole_tiles.proofs.Tiles.{tile_met}
use Rattle.whole_tiles.proofs.painting.Painting.paint_like.Goals as goal

pub whole_tile_like-requires-clause-met : goal.whole_tile_like-requires-clause-met
whole_tile_like-requires-clause-met c = tile_met c.self.inside.job c.args.i c.key.result (ap (λ (p : Plan). slice_get (tiles_of p.job) c.args.i) c.self.view_is ∙ c.key.ensures)
