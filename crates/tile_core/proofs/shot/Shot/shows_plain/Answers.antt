use Rattle.std.proofs.Common.{◌≡◌, ◌≤◌, Bool, IsTrue, true, Some, None, sym, subst, ◌∙◌, rules}
use Rattle.pixel_core.specs.Rgba.{Rgba, same_pixel}
use Rattle.geom_core.specs.Areas.{point, holds}
use Rattle.tile_core.proofs.SameSights.{seen, corner_held}
use Rattle.tile_core.proofs.shot.Shot.shows_plain.Goals as goal

told : (a b : Rgba) (r : Bool) → r ≡ same_pixel a b → (IsTrue r → a ≡ b) × (a ≡ b → IsTrue r)
told a b r e = search rules

pub returns-in-Some : goal.returns-in-Some
returns-in-Some c = (
  (λ t q h. sym (c.is_plain_in.ensures.0 t q h) ∙ sym (seen c.args.self.now c.args.key c.args.rect.now (Some c.in-Some.own.now) q c.requires.inside c.in-Some.ensures h)),
  (λ all. c.is_plain_in.ensures.1 (λ q h. sym (seen c.args.self.now c.args.key c.args.rect.now (Some c.in-Some.own.now) q c.requires.inside c.in-Some.ensures h) ∙ sym (all q h))),
)

pub returns-in-None : goal.returns-in-None
returns-in-None c =
    let corner = point c.args.rect.now.x c.args.rect.now.y in
    let h : holds c.args.rect.now corner ≡ true = corner_held c.args.rect.now (subst (λ n. 1 ≤ n) c.w.ensures.value c.w.ensures.some) (subst (λ n. 1 ≤ n) c.h.ensures.value c.h.ensures.some) in
    let same = told c.args.p c.ground.result c.eq.result c.eq.ensures in (
      (λ t q h. same.0 t ∙ c.ground.ensures ∙ sym (seen c.args.self.now c.args.key c.args.rect.now None q c.requires.inside c.in-None.ensures h)),
      (λ all. same.1 (all corner h ∙ seen c.args.self.now c.args.key c.args.rect.now None corner c.requires.inside c.in-None.ensures h ∙ sym c.ground.ensures)),
    )
