use Rattle.std.proofs.Common.{Option, Some, None, sym, ap, ◌∙◌}
use Rattle.geom_core.specs.Areas.{Area}
use Rattle.geom_core.specs.Exchanged.{widened}
use Rattle.geom_core.specs.Grid.{tile}
use Rattle.host_pieces.proofs.Parts.{round_more}
use Rattle.host_pieces.proofs.part.Part.area.Goals as goal

pub loop-i-preserved : goal.loop-i-preserved
loop-i-preserved c =
    ap Some (c.round.ensures ∙ ap (λ (a : Area). widened c.loop-i.round a) c.rect.ensures ∙ ap (λ (o : Option Area). widened o (tile c.tile_at.result)) c.loop-i.invariant)
    ∙ sym (round_more None c.args.self.now.keys c.loop-i.i c.tile_at.result c.tile_at.ensures.value)
