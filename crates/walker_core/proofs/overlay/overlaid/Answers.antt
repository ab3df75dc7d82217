use Rattle.std.proofs.Common.{◌≡◌, ◌∙◌, ap, sym}
use Rattle.geom_core.specs.Areas.{Point}
use Rattle.tile_core.specs.Pixels.{Pixels, pixel_at}
use Rattle.compose_core.specs.Spots.{given_on}
use Rattle.walker_core.proofs.Kept.{overlaid_at, plain_pixel}
use Rattle.walker_core.proofs.overlay.overlaid.Goals as goal
use Rattle.walker_core.proofs.overlay.overlaid.Goals.{in-Held, in-Plain+in_ok-tile-in-Plain}

-- the tile that is laid on shows what is given
below : (c : goal.After-drop-block-inside-2) (p : Point) → pixel_at c.match-given-2.tile p ≡ given_on c.args.given p
below c p = elim c.match-given-2.branch [
  | in-Held w ↦ ap (λ (t : Pixels). pixel_at t p) w.tile-is ∙ sym (ap (λ g. given_on g p) w.in-Held.is)
  | in-Plain+in_ok-tile-in-Plain w ↦ ap (λ (t : Pixels). pixel_at t p) (w.tile-is ∙ w.in_ok-tile-in-Plain.ensures) ∙ plain_pixel w.in-Plain.pixel p ∙ sym (ap (λ g. given_on g p) w.in-Plain.is)
]

pub returns : goal.returns
returns c = λ p k. overlaid_at c.args.spot.now c.from_pixels-block.result c.match-given-2.tile c.in_ok-with_region.field-0 c.args.given c.args.fresh.now c.in_ok-pixels.pixels.items p c.from_pixels-block.ensures c.in_ok-with_region.ensures c.in_ok-pixels.ensures.has (below c p) k
