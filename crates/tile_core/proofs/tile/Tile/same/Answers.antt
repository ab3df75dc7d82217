use Rattle.std.proofs.Common.{sym, ◌∙◌}
use Rattle.tile_core.proofs.SameParts.{whole_same, same_whole}
use Rattle.tile_core.proofs.tile.Tile.same.Goals as goal

pub returns : goal.returns
returns c = (
  (λ h. sym c.pixels.ensures.value ∙ whole_same c.pixels.result.now c.pixels-2.result.now c.pixels.ensures.all c.pixels-2.ensures.all (c.same_part.ensures.0 h) ∙ c.pixels-2.ensures.value),
  (λ e. c.same_part.ensures.1 (same_whole c.pixels.result.now c.pixels-2.result.now (c.pixels.ensures.value ∙ e ∙ sym c.pixels-2.ensures.value))),
)
