use Rattle.std.proofs.Common.{◌≡◌, ◌∙◌, ap, sym, subst, to_z, of_z, w32}
use Rattle.std.specs.Prelude.{◌-ℤ◌}
use Rattle.geom_core.specs.Areas.{Area, area}
use Rattle.geom_core.specs.Rects.{IsWithin, IsInWorld}
use Rattle.geom_core.specs.Grid.{tile}
use Rattle.tile_core.specs.Pixels.{whole_tile}
use Rattle.compose_core.specs.Spots.{part_in_tile}
use Rattle.compose_core.proofs.SpotPoints.{value_of, in_tile_within, in_tile_world, ok_inside, less, same_area}
use Rattle.compose_core.proofs.spot.Spot.in_tile.Goals as goal

there : (c : goal.After-new) → area (to_z w32 (of_z w32 (to_z w32 (of_z w32 c.x.result) -ℤ to_z w32 (of_z w32 c.x-2.result)))) (to_z w32 (of_z w32 (to_z w32 (of_z w32 c.y.result) -ℤ to_z w32 (of_z w32 c.y-2.result)))) c.w.result c.h.result ≡ part_in_tile c.args.self.now
there c = same_area
    (less c.x.result c.x-2.result c.args.self.now.part.x (tile c.args.self.now.key).x c.x.ensures.value (c.x-2.ensures.value ∙ ap (λ (a : Area). a.x) c.rect-tile.ensures) c.x.ensures.low c.x.ensures.high c.x-2.ensures.low c.x-2.ensures.high)
    (less c.y.result c.y-2.result c.args.self.now.part.y (tile c.args.self.now.key).y c.y.ensures.value (c.y-2.ensures.value ∙ ap (λ (a : Area). a.y) c.rect-tile.ensures) c.y.ensures.low c.y.ensures.high c.y-2.ensures.low c.y-2.ensures.high)
    c.w.ensures.value c.h.ensures.value

pub unwrap-requires : goal.unwrap-requires
unwrap-requires c = ok_inside c.new.result _ c.new.ensures.outside (subst IsInWorld (sym (there c)) (in_tile_world (part_in_tile c.args.self.now) (in_tile_within c.args.self.now c.requires)))

pub returns-clause-value : goal.returns-clause-value
returns-clause-value c = value_of c.new.result c.unwrap.result _ c.unwrap.ensures c.new.ensures.ok ∙ there c.before

pub returns-clause-inside : goal.returns-clause-inside
returns-clause-inside c = subst (λ a. IsWithin a whole_tile) (sym (value_of c.new.result c.unwrap.result _ c.unwrap.ensures c.new.ensures.ok ∙ there c.before)) (in_tile_within c.args.self.now c.requires)
