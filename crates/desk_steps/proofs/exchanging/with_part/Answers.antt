use Rattle.std.proofs.Common.{◌≡◌, true, cond, ap, subst, ◌∙◌}
use Rattle.std.proofs.lemmas.Result.{IfOk-weaker}
use Rattle.geom_core.specs.Areas.{holds, Point}
use Rattle.tile_core.specs.Pixels.{Pixels, pixel_at, HasPixels}
use Rattle.tile_core.specs.Blocks.{Piece, LaysBlock}
use Rattle.doc_model.specs.Shots.{in_tile}
use Rattle.desk_steps.proofs.WholeTiles.{part_laid, part_none}
use Rattle.desk_steps.proofs.exchanging.with_part.Goals as goal

pub returns-in_ok-pixels-in-Some : goal.returns-in_ok-pixels-in-Some
returns-in_ok-pixels-in-Some c =
    let x = c.args.whole.now in
    IfOk-weaker c.with_region-in-Some.result (λ t. LaysBlock c.args.tile t c.from_pixels.result) (λ t. (p : Point) → in_tile x.key p ≡ true → pixel_at t p ≡ cond (holds c.args.rect.now p) (pixel_at x.tile p) (pixel_at c.args.tile p))
    (λ t lays p inside. part_laid c.key-key.result c.args.rect.now c.in-Some.part c.rect.result c.args.tile t x.tile c.in_ok-pixels-in-Some.pixels.items c.rect.ensures c.in-Some.ensures.shared
    (subst (λ (u : Pixels). HasPixels c.in-Some.part (pixel_at u) c.in_ok-pixels-in-Some.pixels.items) c.tile.ensures c.in_ok-pixels-in-Some.ensures.has)
    (subst (λ (b : Piece). LaysBlock c.args.tile t b) c.from_pixels.ensures lays) p (ap (λ k. in_tile k p) c.key-key.ensures.value ∙ inside))
    c.with_region-in-Some.ensures

pub returns-in-None : goal.returns-in-None
returns-in-None c p inside = part_none c.key-key.result c.args.rect.now c.rect.result c.args.tile c.args.whole.now.tile c.rect.ensures c.in-None.ensures.apart p (ap (λ k. in_tile k p) c.key-key.ensures.value ∙ inside)
