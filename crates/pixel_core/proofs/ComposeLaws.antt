-- What composing does at the ends of its range.
use Rattle.std.proofs.Common.{◌≡◌, ◌≢◌, ℕ, ◌+◌, ◌-◌, ◌*◌, ◌≤◌, ◌<◌, ◌==◌, Bool, true, false, arith, ap, sym, ◌∙◌, refl}
use Rattle.std.specs.Prelude.{if◌then◌else◌}
use Rattle.std.proofs.lemmas.Bool.Decides.{nat_tests}
use Rattle.pixel_core.specs.declared.blending.Op.{Op}
use Rattle.pixel_core.specs.declared.blending.Op.TheVariants.{Over, Erase, Multiply, Screen, Addition}
use Rattle.pixel_core.specs.Rgba.{Rgba, rgba, clear, if_canonical}
use Rattle.pixel_core.specs.Canonical.{IsCanonical}
use Rattle.pixel_core.specs.Compose.{blend, weight, channel, erased, laid, composed_at, compose, mul, nearest}
use Rattle.pixel_core.specs.Laws.{StaysCanonical, UnseenLeaves, OpaqueHides, OnClear, OpaqueErases}
use Rattle.pixel_core.proofs.Rounding.{exact_at, whole, nothing, mul_byte}
use Rattle.pixel_core.proofs.Sums.{test_false, test_true, same_rgba, laid_open, composed_laid, most, byte, weight_most, mul_least, heavy}

-- alpha 0 over any destination
under : (da s d f : ℕ) → 0 < da → nearest ((255 - 0) * da * d + (255 - da) * 0 * s + 0 * da * f) (weight 0 da) ≡ d
under da s d f h = exact_at _ _ (255 * da) d (grind arith) (grind arith) (omega arith)

-- any alpha on a clear destination
above : (sa s f : ℕ) → 0 < sa → nearest ((255 - sa) * 0 * 0 + (255 - 0) * sa * s + sa * 0 * f) (weight sa 0) ≡ s
above sa s f h = exact_at _ _ (255 * sa) s (grind arith) (grind arith) (omega arith)

-- full alpha over any destination
hides : (da s d : ℕ) → da ≤ 255 → nearest ((255 - 255) * da * d + (255 - da) * 255 * s + 255 * da * s) (weight 255 da) ≡ s
hides da s d h =
    let g : (255 - da) * s + da * s ≡ 255 * s = (let e : (255 - da) + da ≡ 255 = omega arith in omega (arith, ap (λ n. n * s) e)) in
    exact_at _ _ 65025 s (omega (arith, g)) (omega arith) (omega arith)

unseen_laid : (op : Op) (s d : Rgba) → IsCanonical d → laid op s d 0 ≡ d
unseen_laid op s d h = go (d.a == 0) refl
  where
    go : (t : Bool) → (d.a == 0) ≡ t → laid op s d 0 ≡ d
    go true e =
        let z : d.a ≡ 0 = grind (arith, nat_tests) in
        rw (test_true (weight 0 d.a) (omega arith)) (sym (h.clear_where_0 z))
    go false e =
        let some : 0 < d.a = grind (arith, nat_tests) in
        laid_open op s d 0 (λ z. omega arith) ∙ same_rgba (under d.a s.r d.r _ some) (under d.a s.g d.g _ some) (under d.a s.b d.b _ some) (let e : nearest (weight 0 d.a) 255 ≡ d.a = omega arith in e)

erased_same : (d : Rgba) → IsCanonical d → erased d d.a ≡ d
erased_same d h = go (d.a == 0) refl
  where
    go : (t : Bool) → (d.a == 0) ≡ t → (if t then clear else d) ≡ d
    go true e = sym (h.clear_where_0 (grind (arith, nat_tests)))
    go false e = refl

unseen_at : (op : Op) (s d : Rgba) → IsCanonical d → composed_at op s d 0 ≡ d
unseen_at Erase s d h = ap (erased d) (whole d.a) ∙ erased_same d h
unseen_at Over s d h = unseen_laid Over s d h
unseen_at Multiply s d h = unseen_laid Multiply s d h
unseen_at Screen s d h = unseen_laid Screen s d h
unseen_at Addition s d h = unseen_laid Addition s d h

pub unseen_leaves : UnseenLeaves
unfolding compose
unseen_leaves op s d m e h = ap (composed_at op s d) e ∙ unseen_at op s d h

hidden : (s d : Rgba) → d.a ≤ 255 → laid Over s d 255 ≡ rgba s.r s.g s.b 255
hidden s d h = laid_open Over s d 255 (λ z. omega arith) ∙ same_rgba (hides d.a s.r d.r h) (hides d.a s.g d.g h) (hides d.a s.b d.b h) (let e : nearest (weight 255 d.a) 255 ≡ 255 = omega arith in e)

pub opaque_hides : OpaqueHides
unfolding compose
opaque_hides s d e h =
    let full : mul s.a 255 ≡ 255 = whole s.a ∙ e in
    ap (laid Over s d) full ∙ hidden s d (let f = h.a in omega arith) ∙ same_rgba refl refl refl (sym e)

-- on a clear destination the source with its alpha
laid_on_clear : (op : Op) (s : Rgba) (sa : ℕ) → 0 < sa → laid op s clear sa ≡ rgba s.r s.g s.b sa
laid_on_clear op s sa h = laid_open op s clear sa (λ z. omega arith) ∙ same_rgba (above sa s.r _ h) (above sa s.g _ h) (above sa s.b _ h) (let e : nearest (weight sa 0) 255 ≡ sa = omega arith in e)

-- what the code makes of it
pub made_on_clear : (op : Op) (s d : Rgba) (sa : ℕ) → 0 < sa → d ≡ clear → if_canonical s.r s.g s.b sa ≡ laid op s d sa
made_on_clear op s d sa h e = rw (test_false sa (λ z. omega arith)) (sym (ap (λ x. laid op s x sa) e ∙ laid_on_clear op s sa h))

pub on_clear : OnClear
on_clear op s e h = composed_laid op s clear 255 e ∙ ap (laid op s clear) (whole s.a) ∙ go (s.a == 0) refl
  where
    go : (t : Bool) → (s.a == 0) ≡ t → laid op s clear s.a ≡ s
    go true e =
        let z : s.a ≡ 0 = grind (arith, nat_tests) in
        rw (test_true (weight s.a 0) (omega arith)) (sym (h.clear_where_0 z))
    go false e = laid_on_clear op s s.a (grind (arith, nat_tests))

pub opaque_erases : OpaqueErases
unfolding compose
opaque_erases s d e = ap (λ n. erased d (mul d.a (255 - n))) (whole s.a ∙ e) ∙ ap (erased d) (nothing d.a)

blend_byte : (op : Op) (s d : ℕ) → s ≤ 255 → d ≤ 255 → blend op s d ≤ 255
blend_byte Over s d p q = p
blend_byte Erase s d p q = q
blend_byte Multiply s d p q = mul_byte s d p q
blend_byte Screen s d p q = omega (arith, mul_least s d p q)
blend_byte Addition s d p q = omega arith

clear_canonical : IsCanonical clear
clear_canonical = record { r = omega arith; g = omega arith; b = omega arith; a = omega arith; clear_where_0 = λ _. refl }

some_canonical : (r g b a : ℕ) → r < 256 → g < 256 → b < 256 → a < 256 → a ≢ 0 → IsCanonical (rgba r g b a)
some_canonical r g b a p q t u z = record { r = p; g = q; b = t; a = u; clear_where_0 = λ e. absurd (z e) }

erased_canonical : (d : Rgba) (alpha : ℕ) → IsCanonical d → alpha < 256 → IsCanonical (erased d alpha)
erased_canonical d alpha h k = go (alpha == 0) refl
  where
    go : (t : Bool) → (alpha == 0) ≡ t → IsCanonical (if t then clear else record d { a = alpha })
    go true e = clear_canonical
    go false e = some_canonical d.r d.g d.b alpha h.r h.g h.b k (grind (arith, nat_tests))

channel_byte : (op : Op) (sa da s d : ℕ) → sa ≤ 255 → da ≤ 255 → s < 256 → d < 256 → 0 < weight sa da → channel op sa da s d < 256
channel_byte op sa da s d p q t u some =
    let small : blend op s d ≤ 255 = blend_byte op s d (omega arith) (omega arith) in
    byte _ (weight sa da) some (most sa da s d (blend op s d) p q (omega arith) (omega arith) small)

alpha_byte : (w : ℕ) → w ≤ 65025 → nearest w 255 < 256
alpha_byte w h = omega arith

alpha_some : (w : ℕ) → 255 ≤ w → nearest w 255 ≢ 0
alpha_some w h = λ e. omega arith

laid_canonical : (op : Op) (s d : Rgba) (sa : ℕ) → IsCanonical s → IsCanonical d → sa ≤ 255 → IsCanonical (laid op s d sa)
laid_canonical op s d sa h k p = go (weight sa d.a == 0) refl
  where
    q : d.a ≤ 255
    q = let f = k.a in omega arith

    go : (t : Bool) → (weight sa d.a == 0) ≡ t
        → IsCanonical (if t then clear else rgba (channel op sa d.a s.r d.r) (channel op sa d.a s.g d.g) (channel op sa d.a s.b d.b) (nearest (weight sa d.a) 255))
    go true e = clear_canonical
    go false e =
        let none : weight sa d.a ≢ 0 = grind (arith, nat_tests) in
        let some : 255 ≤ weight sa d.a = heavy sa d.a p q none in
        let pos : 0 < weight sa d.a = omega arith in
        some_canonical _ _ _ _ (channel_byte op sa d.a s.r d.r p q h.r k.r pos) (channel_byte op sa d.a s.g d.g p q h.g k.g pos) (channel_byte op sa d.a s.b d.b p q h.b k.b pos)
        (alpha_byte (weight sa d.a) (weight_most sa d.a p q)) (alpha_some (weight sa d.a) some)

canonical_at : (op : Op) (s d : Rgba) (sa : ℕ) → IsCanonical s → IsCanonical d → sa ≤ 255 → IsCanonical (composed_at op s d sa)
canonical_at Erase s d sa h k p =
    let q : mul d.a (255 - sa) ≤ 255 = mul_byte d.a (255 - sa) (let f = k.a in omega arith) (omega arith) in
    erased_canonical d (mul d.a (255 - sa)) k (omega arith)
canonical_at Over s d sa h k p = laid_canonical Over s d sa h k p
canonical_at Multiply s d sa h k p = laid_canonical Multiply s d sa h k p
canonical_at Screen s d sa h k p = laid_canonical Screen s d sa h k p
canonical_at Addition s d sa h k p = laid_canonical Addition s d sa h k p

pub stays_canonical : StaysCanonical
unfolding compose
stays_canonical op s d m h k p = canonical_at op s d (mul s.a m) h k (mul_byte s.a m (let f = h.a in omega arith) p)
