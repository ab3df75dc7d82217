use Rattle.std.proofs.Common.{Some, None, sym, ◌∙◌}
use Rattle.tile_core.proofs.SameSights.{seen}
use Rattle.tile_core.proofs.shot.Shot.same_part.Goals as goal

pub returns-in-Some : goal.returns-in-Some
returns-in-Some c = (
  (λ t q h. seen c.args.self.now c.args.key c.args.rect.now (Some c.in-Some.tile.now) q c.requires.inside c.in-Some.ensures h ∙ c.shows_tile.ensures.0 t q h),
  (λ all. c.shows_tile.ensures.1 (λ q h. sym (seen c.args.self.now c.args.key c.args.rect.now (Some c.in-Some.tile.now) q c.requires.inside c.in-Some.ensures h) ∙ all q h)),
)

pub returns-in-None : goal.returns-in-None
returns-in-None c = (
  (λ t q h. seen c.args.self.now c.args.key c.args.rect.now None q c.requires.inside c.in-None.ensures h ∙ sym c.ground.ensures ∙ c.shows_plain.ensures.0 t q h),
  (λ all. c.shows_plain.ensures.1 (λ q h. c.ground.ensures ∙ sym (seen c.args.self.now c.args.key c.args.rect.now None q c.requires.inside c.in-None.ensures h) ∙ all q h)),
)
