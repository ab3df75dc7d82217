use Rattle.std.proofs.Common.{◌≡◌, ◌∙◌, ◌-◌, sym, ap, get_or}
use Rattle.pixel_core.specs.Rgba.{if_canonical}
use Rattle.pixel_core.specs.Compose.{laid, mul}
use Rattle.pixel_core.proofs.Sums.{erase_is, composed_laid}
use Rattle.pixel_core.proofs.ComposeLaws.{unseen_leaves}
use Rattle.pixel_core.proofs.blending.compose.Goals as goal

pub returns-then-sa-eq0 : goal.returns-then-sa-eq0
returns-then-sa-eq0 c =
    sym (unseen_leaves c.args.op c.args.s c.args.d c.args.m (ap (λ a. mul a c.args.m) (sym c.alpha.ensures.value) ∙ sym c.mul-sa.ensures.value ∙ c.if-sa-eq0.true) c.bytes.ensures.known)

pub returns-in-Erase : goal.returns-in-Erase
returns-in-Erase c =
    let alpha : c.mul-sa.result ≡ mul c.args.s.a c.args.m = c.mul-sa.ensures.value ∙ ap (λ a. mul a c.args.m) c.alpha.ensures.value in
    let left : c.mul-alpha.result ≡ mul c.args.d.a (255 - c.mul-sa.result) = c.mul-alpha.ensures.value ∙ ap (λ xs. mul (get_or xs 3 0) (255 - c.mul-sa.result)) c.bytes.ensures.value in
    c.new.ensures ∙ ap (λ xs. if_canonical (get_or xs 0 0) (get_or xs 1 0) (get_or xs 2 0) c.mul-alpha.result) c.bytes.ensures.value
    ∙ erase_is c.args.op c.args.s c.args.d c.args.m c.mul-sa.result c.mul-alpha.result c.in-Erase.is alpha left

pub returns-in_default : goal.returns-in_default
returns-in_default c =
    let alpha : c.mul-sa.result ≡ mul c.args.s.a c.args.m = c.mul-sa.ensures.value ∙ ap (λ a. mul a c.args.m) c.alpha.ensures.value in
    c.lay.ensures ∙ ap (laid c.args.op c.args.s c.args.d) alpha ∙ sym (composed_laid c.args.op c.args.s c.args.d c.args.m c.in_default.not-Erase)
