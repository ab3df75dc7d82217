use Rattle.std.proofs.Common.{refl}
use Rattle.tile_core.proofs.SameSights.{in_tile_of_part, part_of_in_tile, none_in_tile}
use Rattle.tile_core.proofs.shot.Shot.same_in.Goals as goal

pub returns-in-Some : goal.returns-in-Some
returns-in-Some c = (
  (λ t. in_tile_of_part c.args.self.now c.args.other.now c.args.key c.args.rect.now c.rect.result c.in-Some.part c.rect.ensures c.in-Some.ensures.shared (c.same_part.ensures.0 t)),
  (λ same. c.same_part.ensures.1 (part_of_in_tile c.args.self.now c.args.other.now c.args.key c.args.rect.now c.rect.result c.in-Some.part c.rect.ensures c.in-Some.ensures.shared same)),
)

pub returns-in-None : goal.returns-in-None
returns-in-None c = (
  (λ t. none_in_tile c.args.self.now c.args.other.now c.args.key c.args.rect.now c.rect.result c.rect.ensures c.in-None.ensures.apart),
  (λ same. refl),
)
