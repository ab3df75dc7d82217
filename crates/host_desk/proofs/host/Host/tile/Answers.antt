use Rattle.std.proofs.Common.{rules, ◌≡◌, Some, true, subst, ◌∙◌}
use Rattle.std.specs.Option.{option_copied}
use Rattle.geom_core.specs.Areas.{Point}
use Rattle.geom_core.specs.Grid.{Key, tile}
use Rattle.geom_core.specs.Overlaps.{clipped}
use Rattle.tile_core.specs.Pixels.{pixel_at}
use Rattle.doc_model.specs.Layers.{at}
use Rattle.doc_model.specs.Picture.{canvas_area}
use Rattle.doc_model.specs.Shots.{in_tile}
use Rattle.machine_model.specs.Covers.{covered}
use Rattle.machine_model.specs.Groups.{cache}
use Rattle.machine_model.specs.State.{State}
use Rattle.slot_work.specs.Round.{IsRound}
use Rattle.desk_events.specs.Shown.{ShowsWhereClean}
use Rattle.host_desk.specs.Tiles.{pixels_of, tile_key}
use Rattle.host_desk.proofs.CopiedPixels.{tile_shows}
use Rattle.host_desk.proofs.host.Host.tile.Goals as goal

pub returns : goal.returns
returns c =
    let on : clipped (canvas_area c.args.self.now.canvas) (tile (tile_key c.args.col c.args.row)) ≡ Some c.in-Some.part = search rules in
    record {
      pixels = pixels_of (option_copied c.root_tile.result);
      shows = subst (λ (s : State). (p : Point) → in_tile (tile_key c.args.col c.args.row) p ≡ true → pixel_at (pixels_of (option_copied c.root_tile.result)) p ≡ at (cache s.caches 0) p) (c.deref.ensures ∙ c.self.view_is)
          (subst (λ (k : Key). (p : Point) → in_tile k p ≡ true → pixel_at (pixels_of (option_copied c.root_tile.result)) p ≡ at (cache c.deref.result.now.caches 0) p) c.key_at-key.ensures
          (tile_shows c.root_tile.result c.key_at-key.result (cache c.deref.result.now.caches 0) c.root_tile.ensures.some c.root_tile.ensures.none));
      bytes = c.copy_tile.ensures;
      part = c.in-Some.part;
      on_canvas = on;
      round = subst (λ (s : State). IsRound c.in-Some.part (covered s 0) c.dirty_in.result) (c.deref-2.ensures ∙ c.self.view_is) c.dirty_in.ensures.round;
      clean = subst ShowsWhereClean (c.deref-2.ensures ∙ c.self.view_is) c.dirty_in.ensures.picture;
    }
