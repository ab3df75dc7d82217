use Rattle.std.proofs.Common.{◌∙◌, ◌≡◌, ap, sym, List, arith, length}
use Rattle.std.specs.List.{list_any}
use Rattle.geom_core.specs.Areas.{Area}
use Rattle.geom_core.specs.Grid.{same_key, all_keys_of}
use Rattle.pixel_tests.proofs.FirstTiles.{first_tile_met}
use Rattle.pixel_tests.proofs.jobs.first_tile.Goals as goal

pub returns : goal.returns
returns g c = ap (λ (rects : List Area). list_any (same_key c.tile_at.result) (all_keys_of rects)) (sym c.writes-rects.ensures) ∙
    ap (λ (rects : List Area). list_any (same_key c.tile_at.result) (all_keys_of rects)) (sym c.deref.ensures.0)
    ∙ first_tile_met c.deref.result.now c.index-deref-0.result c.tile_at.result c.index-deref-0.is (let e : length c.deref.result.now ≡ length c.writes-rects.result.items = ap length c.deref.ensures.0 in omega (arith, c.len.ensures.value)) c.tile_at.ensures.value
