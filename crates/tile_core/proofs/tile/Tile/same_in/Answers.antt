use Rattle.std.proofs.Common.{◌≡◌, sym, subst}
use Rattle.std.specs.Prelude.{slice_index_or}
use Rattle.pixel_core.specs.Rgba.{clear}
use Rattle.tile_core.specs.Same.{PartIs}
use Rattle.tile_core.proofs.SameParts.{points_are, part_is}
use Rattle.tile_core.proofs.PartsOf.{fits_across, fits_down}
use Rattle.tile_core.proofs.tile.Tile.same_in.Goals as goal

pub same_part-requires-clause-across : goal.same_part-requires-clause-across
same_part-requires-clause-across c = fits_across c.args.key c.args.rect.now c.part_in_tile.result c.requires.key c.requires.inside c.part_in_tile.ensures

pub same_part-requires-clause-down : goal.same_part-requires-clause-down
same_part-requires-clause-down c = fits_down c.args.key c.args.rect.now c.part_in_tile.result c.requires.key c.requires.inside c.part_in_tile.ensures

pub returns : goal.returns
returns c =
    let p = c.part_in_tile.result in
    let same : PartIs c.pixels.result.now (λ k. slice_index_or c.pixels-2.result.now k clear) p.left p.top p.w p.h ≡ PartIs c.args.self.now (λ k. slice_index_or c.args.other.now k clear) p.left p.top p.w p.h = (λ i. PartIs (c.pixels.ensures.value i) (λ k. slice_index_or (c.pixels-2.ensures.value i) k clear) p.left p.top p.w p.h) in (
      (λ h. points_are c.args.self.now (λ k. slice_index_or c.args.other.now k clear) c.args.key c.args.rect.now p c.requires.key c.requires.inside c.part_in_tile.ensures (subst (λ P. P) same (c.same_part.ensures.0 h))),
      (λ h. c.same_part.ensures.1 (subst (λ P. P) (sym same) (part_is c.args.self.now (λ k. slice_index_or c.args.other.now k clear) c.args.key c.args.rect.now p c.requires.key c.requires.inside c.part_in_tile.ensures h))),
    )
