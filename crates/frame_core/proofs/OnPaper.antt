-- Clear and opaque pixels on an opaque paper.
use Rattle.std.proofs.Common.{◌≡◌, ℕ, ◌+◌, ◌-◌, ◌*◌, ◌/◌, [], ◌∷◌, ap, sym, ◌∙◌, arith}
use Rattle.pixel_core.specs.Rgba.{Rgba, rgba, clear}
use Rattle.pixel_core.specs.Compose.{compose, on_paper, mul}

-- an opaque pixel, of which the alpha is left out
abbrev opaque : Rgba → Rgba
opaque p = rgba p.r p.g p.b 255

is_opaque : (p : Rgba) → p.a ≡ 255 → p ≡ opaque p
is_opaque p e i = rgba p.r p.g p.b (e i)

colour_below : (d : ℕ) → d ≡ (2 * ((255 - 0) * 255 * d + (255 - 255) * 0 * 0 + 0 * 255 * 0) + 65025) / (2 * 65025)
colour_below d = omega arith

three : {r r' g g' b b' : ℕ} → r ≡ r' → g ≡ g' → b ≡ b' → (r ∷ g ∷ b ∷ []) ≡ (r' ∷ g' ∷ b' ∷ [])
three e f h i = e i ∷ f i ∷ h i ∷ []

clear_shows : (p : Rgba) → (p.r ∷ p.g ∷ p.b ∷ []) ≡ on_paper clear (opaque p)
unfolding compose mul
clear_shows p = three (colour_below p.r) (colour_below p.g) (colour_below p.b)

-- where nothing is laid the paper shows
pub paper_shows : (paper : Rgba) → paper.a ≡ 255 → (paper.r ∷ paper.g ∷ paper.b ∷ []) ≡ on_paper clear paper
paper_shows paper e = clear_shows paper ∙ ap (on_paper clear) (sym (is_opaque paper e))
