-- A source whose alpha is taken down beforehand.
use Rattle.std.proofs.Common.{◌≡◌, ℕ, ◌+◌, ◌-◌, ◌*◌, arith, ap, ◌∙◌, refl, Bool, true, false, ◌==◌, if◌then◌else◌}
use Rattle.std.proofs.lemmas.Bool.Decides.{nat_tests}
use Rattle.pixel_core.specs.declared.blending.Op.{Op}
use Rattle.pixel_core.specs.declared.blending.Op.TheVariants.{Over, Erase, Multiply, Screen, Addition}
use Rattle.pixel_core.specs.Rgba.{Rgba, rgba, clear, if_canonical}
use Rattle.pixel_core.specs.Compose.{weight, channel, laid, composed_at, compose, blend, nearest, mul}
use Rattle.pixel_core.proofs.Rounding.{whole}

-- without alpha the source's colour is nothing
no_colour : (op : Op) (da s t d : ℕ) → channel op 0 da s d ≡ channel op 0 da t d
no_colour op da s t d =
    ap (λ n. nearest n (weight 0 da)) (let e : (255 - 0) * da * d + (255 - da) * 0 * s + 0 * da * blend op s d ≡ (255 - 0) * da * d + (255 - da) * 0 * t + 0 * da * blend op t d = grind arith in e)

unseen_laid : (op : Op) (s t d : Rgba) → laid op s d 0 ≡ laid op t d 0
unseen_laid op s t d = λ i. if weight 0 d.a == 0 then clear else rgba (no_colour op d.a s.r t.r d.r i) (no_colour op d.a s.g t.g d.g i) (no_colour op d.a s.b t.b d.b i) (nearest (weight 0 d.a) 255)

unseen_at : (op : Op) (s t d : Rgba) → composed_at op s d 0 ≡ composed_at op t d 0
unseen_at Erase s t d = refl
unseen_at Over s t d = unseen_laid Over s t d
unseen_at Multiply s t d = unseen_laid Multiply s t d
unseen_at Screen s t d = unseen_laid Screen s t d
unseen_at Addition s t d = unseen_laid Addition s t d

-- the source's own alpha stands nowhere else
own_alpha : (op : Op) (s d : Rgba) (a : ℕ) → composed_at op (rgba s.r s.g s.b a) d a ≡ composed_at op s d a
own_alpha Erase s d a = refl
own_alpha Over s d a = refl
own_alpha Multiply s d a = refl
own_alpha Screen s d a = refl
own_alpha Addition s d a = refl

dimmed_at : (op : Op) (s d : Rgba) (a : ℕ) → composed_at op (if_canonical s.r s.g s.b a) d (if_canonical s.r s.g s.b a).a ≡ composed_at op s d a
dimmed_at op s d a = go (a == 0) refl
  where
    go : (t : Bool) → (a == 0) ≡ t → composed_at op (if t then clear else rgba s.r s.g s.b a) d (if t then clear else rgba s.r s.g s.b a).a ≡ composed_at op s d a
    go true e = unseen_at op clear s d ∙ ap (composed_at op s d) (let z : 0 ≡ a = grind (arith, nat_tests) in z)
    go false e = own_alpha op s d a

pub dimmed_is : (op : Op) (s d : Rgba) (m : ℕ) → compose op (if_canonical s.r s.g s.b (mul s.a m)) d 255 ≡ compose op s d m
unfolding compose
dimmed_is op s d m = ap (composed_at op (if_canonical s.r s.g s.b (mul s.a m)) d) (whole (if_canonical s.r s.g s.b (mul s.a m)).a) ∙ dimmed_at op s d (mul s.a m)
