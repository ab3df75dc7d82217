use Rattle.std.proofs.Common.{◌≡◌, ◌∙◌, ap}
use Rattle.std.specs.BTreeMap as tree
use Rattle.std.proofs.lemmas.Int.{to_z-of_z}
use Rattle.geom_core.specs.Areas.{point}
use Rattle.geom_core.specs.Grid.{key_cmp, key_of}
use Rattle.tile_core.specs.Pixels.{pixel_or}
use Rattle.tile_core.specs.Shots.{Sight, sight_at}
use Rattle.tile_core.proofs.MapViews.{seen_under}
use Rattle.tile_core.proofs.shot.Shot.at.Goals as goal

pub returns : goal.returns
returns c =
    let e : c.pixel_under.result ≡ pixel_or (tree.get key_cmp c.deref.result.now.tiles (key_of (point c.args.x c.args.y))) c.self.inside.ground (point c.args.x c.args.y) = simp (to_z-of_z, c.ranges.x, c.ranges.y) at c.pixel_under.ensures in
    e ∙ (λ i. pixel_or (tree.get key_cmp (c.deref.ensures i).tiles (key_of (point c.args.x c.args.y))) c.self.inside.ground (point c.args.x c.args.y)) ∙ seen_under c.self.inside.seen.value.tiles (key_of (point c.args.x c.args.y)) c.self.inside.ground (point c.args.x c.args.y) ∙ ap (λ (s : Sight). sight_at s (point c.args.x c.args.y)) c.self.view_is
