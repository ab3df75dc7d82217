-- Laying a source on a backdrop, by the equations of W3C's Compositing and Blending Level 1, in whole numbers.
--
-- Alphas and colours are 255ths, and colours aren't premultiplied. The equations, in fractions of 1 and with a small co
-- for the result's premultiplied colour, are
--   co = Cs x αs + Cb x αb x (1 - αs) and αo = αs + αb x (1 - αs)     section 5.1, simple alpha compositing
--   Cs = (1 - αb) x Cs + αb x B(Cb, Cs)                               section 10, the source's colour after blending
--   B = Cs for normal, Cb x Cs for multiply, Cb + Cs - Cb x Cs for screen     section 10
--   co = αb x Cb x (1 - αs) and αo = αb x (1 - αs)                    section 9.1, destination out
-- Over is normal and Erase destination out. Addition is no mode of that text: its B is min(1, Cb + Cs).
--
-- Where they round is not in that text: the source's alpha times the strength, a product in B, the alpha that Erase
-- leaves, and each channel of the result are each rounded to the nearest 255th.
use Rattle.std.specs.Prelude.{ℕ, ◌+◌, ◌-◌, ◌*◌, ◌/◌, ◌==◌, if◌then◌else◌, min, List, [], ◌∷◌}
use Rattle.pixel_core.specs.declared.blending.Op.{Op}
use Rattle.pixel_core.specs.declared.blending.Op.TheVariants.{Over, Erase, Multiply, Screen, Addition}
use Rattle.pixel_core.specs.Rgba.{Rgba, clear}

-- n / w, rounded to the nearest whole number, a half upwards
abbrev pub nearest : ℕ → ℕ → ℕ
nearest n w = (2 * n + w) / (2 * w)

-- the whole number nearest to a * b / 255
unfoldable pub mul : ℕ → ℕ → ℕ
mul a b = nearest (a * b) 255

-- B: the colour where both cover, for one channel
abbrev pub blend : Op → ℕ → ℕ → ℕ
blend Over s d = s
blend Erase s d = d
blend Multiply s d = mul s d
blend Screen s d = (s + d) - mul s d
blend Addition s d = min 255 (s + d)

-- 255 * 255 times αo
abbrev pub weight : ℕ → ℕ → ℕ
weight sa da = 255 * (sa + da) - sa * da

-- one channel of the result: 255 * 255 * 255 times co, divided by 255 * 255 times αo
abbrev pub channel : Op → ℕ → ℕ → ℕ → ℕ → ℕ
channel op sa da s d = nearest ((255 - sa) * da * d + (255 - da) * sa * s + sa * da * blend op s d) (weight sa da)

-- the colour of d under an alpha of its own; clear where that is 0
abbrev pub erased : Rgba → ℕ → Rgba
erased d alpha = if alpha == 0 then clear else record d { a = alpha }

-- s laid on d by an operation other than Erase, with alpha sa
abbrev pub laid : Op → Rgba → Rgba → ℕ → Rgba
laid op s d sa =
    if weight sa d.a == 0
    then clear
    else record {
      r = channel op sa d.a s.r d.r;
      g = channel op sa d.a s.g d.g;
      b = channel op sa d.a s.b d.b;
      a = nearest (weight sa d.a) 255;
    }

-- s laid on d with alpha sa
abbrev pub composed_at : Op → Rgba → Rgba → ℕ → Rgba
composed_at Erase s d sa = erased d (mul d.a (255 - sa))
composed_at op s d sa = laid op s d sa

-- s laid on d with a strength of m 255ths
unfoldable pub compose : Op → Rgba → Rgba → ℕ → Rgba
compose op s d m = composed_at op s d (mul s.a m)

-- red, green and blue of a pixel laid over an opaque paper
abbrev pub on_paper : Rgba → Rgba → List ℕ
on_paper p paper = let c = compose Over p paper 255 in c.r ∷ c.g ∷ c.b ∷ []
