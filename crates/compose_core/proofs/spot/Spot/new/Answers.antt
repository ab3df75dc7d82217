use Rattle.std.proofs.Common.{ap, ◌∙◌}
use Rattle.geom_core.specs.Areas.{Area, holds}
use Rattle.compose_core.proofs.SpotPoints.{catches_part, tile_held}
use Rattle.compose_core.proofs.spot.Spot.new.Goals as goal
use Rattle.compose_core.proofs.spot.Spot.new.Goals.{in-Some, in-None}

pub returns-clause-catches : goal.returns-clause-catches
returns-clause-catches c p h k = elim c.match-clip.branch [
  | in-Some w ↦ ap (λ (a : Area). holds a p) w.part-is ∙ catches_part c.args.rect.now w.in-Some.part c.args.key c.rect-tile.result p c.rect-tile.ensures w.in-Some.ensures.shared h k
  | in-None w ↦ ap (λ (a : Area). holds a p) (w.part-is ∙ c.rect-tile.ensures) ∙ tile_held c.args.key p k
]
