use Rattle.std.proofs.Common.{◌≡◌, sym, subst}
use Rattle.tile_core.specs.Same.{PartIs}
use Rattle.tile_core.proofs.SameParts.{points_are, part_is}
use Rattle.tile_core.proofs.PartsOf.{fits_across, fits_down}
use Rattle.tile_core.proofs.tile.Tile.is_plain_in.Goals as goal

pub is_plain_part-requires-clause-across : goal.is_plain_part-requires-clause-across
is_plain_part-requires-clause-across c = fits_across c.args.key c.args.rect.now c.part_in_tile.result c.requires.key c.requires.inside c.part_in_tile.ensures

pub is_plain_part-requires-clause-down : goal.is_plain_part-requires-clause-down
is_plain_part-requires-clause-down c = fits_down c.args.key c.args.rect.now c.part_in_tile.result c.requires.key c.requires.inside c.part_in_tile.ensures

pub returns : goal.returns
returns c =
    let p = c.part_in_tile.result in
    let same : PartIs c.pixels.result.now (λ _. c.args.p) p.left p.top p.w p.h ≡ PartIs c.args.self.now (λ _. c.args.p) p.left p.top p.w p.h = (λ i. PartIs (c.pixels.ensures.value i) (λ _. c.args.p) p.left p.top p.w p.h) in (
      (λ h. points_are c.args.self.now (λ _. c.args.p) c.args.key c.args.rect.now p c.requires.key c.requires.inside c.part_in_tile.ensures (subst (λ P. P) same (c.is_plain_part.ensures.0 h))),
      (λ h. c.is_plain_part.ensures.1 (subst (λ P. P) (sym same) (part_is c.args.self.now (λ _. c.args.p) c.args.key c.args.rect.now p c.requires.key c.requires.inside c.part_in_tile.ensures h))),
    )
