use Rattle.std.proofs.Common.{Some, None, sym, ◌∙◌}
use Rattle.tile_core.proofs.SameSights.{seen}
use Rattle.tile_core.proofs.shot.Shot.shows_tile.Goals as goal

pub returns-in-Some : goal.returns-in-Some
returns-in-Some c = (
  (λ t q h. c.same_in.ensures.0 t q h ∙ sym (seen c.args.self.now c.args.key c.args.rect.now (Some c.in-Some.own.now) q c.requires.inside c.in-Some.ensures h)),
  (λ all. c.same_in.ensures.1 (λ q h. all q h ∙ seen c.args.self.now c.args.key c.args.rect.now (Some c.in-Some.own.now) q c.requires.inside c.in-Some.ensures h)),
)

pub returns-in-None : goal.returns-in-None
returns-in-None c = (
  (λ t q h. c.is_plain_in.ensures.0 t q h ∙ c.ground.ensures ∙ sym (seen c.args.self.now c.args.key c.args.rect.now None q c.requires.inside c.in-None.ensures h)),
  (λ all. c.is_plain_in.ensures.1 (λ q h. all q h ∙ seen c.args.self.now c.args.key c.args.rect.now None q c.requires.inside c.in-None.ensures h ∙ sym c.ground.ensures)),
)
