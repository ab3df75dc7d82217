use Rattle.std.proofs.Common.{ap, ◌∙◌, sym, ◌*◌, get_or, replicate}
use Rattle.pixel_core.specs.Rgba.{clear}
use Rattle.geom_core.specs.Rects.{place_in}
use Rattle.tile_core.proofs.Taken.{plain_pixels}
use Rattle.compose_core.specs.Spots.{given_on}
use Rattle.compose_core.proofs.children.Given.pixels_on.Goals as goal

pub returns-in_ok-vec-in-Plain-clause-has : goal.returns-in_ok-vec-in-Plain-clause-has
returns-in_ok-vec-in-Plain-clause-has c = λ p h.
    ap (λ ps. get_or ps (place_in c.args.spot.now.part p) clear) (c.in_ok-vec-in-Plain.ensures.items_if_clones_equal (λ _ h. h) ∙ (λ i. replicate (c.h.ensures.value i * c.w.ensures.value i) c.in-Plain.pixel))
    ∙ plain_pixels c.args.spot.now.part c.in-Plain.pixel p h ∙ sym (ap (λ g. given_on g p) c.in-Plain.is)
