-- What the weights of a source and a backdrop make of their colours.
use Rattle.std.proofs.Common.{◌≡◌, ◌≢◌, ℕ, ◌+◌, ◌-◌, ◌*◌, ◌/◌, ◌%◌, ◌≤◌, ◌<◌, arith, ap, sym, ◌∙◌, ◌==◌, Bool, true, false, refl, if◌then◌else◌, zero, suc}
use Rattle.std.proofs.lemmas.Bool.Decides.{nat_tests}
use Rattle.std.proofs.lemmas.Nat.{div-mul-add}
use Rattle.std.proofs.Math.Nat.{div-add-mod, mod-lt}
use Rattle.pixel_core.specs.declared.blending.Op.{Op}
use Rattle.pixel_core.specs.declared.blending.Op.TheVariants.{Over, Erase}
use Rattle.pixel_core.specs.Rgba.{Rgba, if_canonical, rgba, clear}
use Rattle.pixel_core.specs.Compose.{weight, channel, laid, compose, blend, nearest}
use Rattle.pixel_core.proofs.Rounding.{whole}
use Rattle.pixel_core.proofs.Sums.{composed_laid, same_rgba, test_false, test_true, heavy}

-- the two parts of the weight
weight_is : (sa da : ℕ) → sa ≤ 255 → 255 * sa + (255 - sa) * da ≡ weight sa da
weight_is sa da h =
    let e : (255 - sa) + sa ≡ 255 = omega arith in
    omega (arith, ap (λ n. n * da) e)

pub parts_most : (sa da : ℕ) → sa ≤ 255 → da ≤ 255 → 255 * sa + (255 - sa) * da ≤ 65025
parts_most sa da h k =
    let p : (255 - sa) * da ≤ (255 - sa) * 255 = grind arith in
    omega (arith, p)

-- all but what neither covers
pub cover_is : (sa da : ℕ) → sa ≤ 255 → da ≤ 255 → 65025 - (255 - sa) * (255 - da) ≡ 255 * sa + (255 - sa) * da
cover_is sa da h k =
    let e : (255 - da) + da ≡ 255 = omega arith in
    omega (arith, ap (λ n. (255 - sa) * n) e)

-- what covers at all weighs as much as the least alpha
pub cover_least : (sa da : ℕ) → sa ≤ 255 → da ≤ 255 → 0 < 65025 - (255 - sa) * (255 - da) → 255 ≤ 65025 - (255 - sa) * (255 - da)
cover_least sa da h k some = go sa refl
  where
    go : (x : ℕ) → x ≡ sa → 255 ≤ 65025 - (255 - sa) * (255 - da)
    go zero e = rw (cover_is sa da h k) (rw (sym e) (let t : 0 < 255 * 0 + (255 - 0) * da = rw (cover_is sa da h k, sym e) at some in omega (arith, t)))
    go (suc x) e = omega (arith, e, cover_is sa da h k)

-- halves added before a division round it
pub rounds : (n w : ℕ) → 0 < w → (n + w / 2) / w ≡ nearest n w
rounds n w h =
    let q = (n + w / 2) / w in
    let r = (n + w / 2) % w in
    let cut : q * w + r ≡ n + w / 2 = (let t = div-add-mod (n + w / 2) w in omega (arith, t)) in
    let low : r < w = mod-lt (n + w / 2) h in
    let e : 2 * n + w ≡ q * (2 * w) + (2 * r + (w - 2 * (w / 2))) = omega (arith, cut) in
    sym (ap (λ m. m / (2 * w)) e ∙ div-mul-add q (2 * w) (2 * r + (w - 2 * (w / 2))) (omega (arith, low)))

-- the source's part, whether the backdrop covers or not
channel_is : (sa da s d : ℕ) → sa ≤ 255 → da ≤ 255 → nearest (255 * sa * s + (255 - sa) * da * d) (255 * sa + (255 - sa) * da) ≡ channel Over sa da s d
channel_is sa da s d h k =
    let e : (255 - da) + da ≡ 255 = omega arith in
    let both : (255 - da) * sa * s + sa * da * s ≡ 255 * sa * s = grind (arith, ap (λ n. n * (sa * s)) e) in
    let sum : 255 * sa * s + (255 - sa) * da * d ≡ (255 - sa) * da * d + (255 - da) * sa * s + sa * da * s = omega (arith, both) in
    ap (λ n. nearest n (255 * sa + (255 - sa) * da)) sum ∙ ap (nearest ((255 - sa) * da * d + (255 - da) * sa * s + sa * da * s)) (weight_is sa da h)

-- a channel, where anything covers
abbrev pub IsMean : ℕ → ℕ → ℕ → ℕ → ℕ → Type 0
IsMean sa da s d c = 0 < 255 * sa + (255 - sa) * da → c ≡ nearest (255 * sa * s + (255 - sa) * da * d) (255 * sa + (255 - sa) * da)

-- the pixel of these channels is the composed one
pub over_is : (s d : Rgba) (r g b a : ℕ) → s.a ≤ 255 → d.a ≤ 255
    → IsMean s.a d.a s.r d.r r → IsMean s.a d.a s.g d.g g → IsMean s.a d.a s.b d.b b
    → a ≡ nearest (255 * s.a + (255 - s.a) * d.a) 255 → if_canonical r g b a ≡ compose Over s d 255
over_is s d r g b a h k er eg eb ea = go (weight s.a d.a == 0) refl ∙ sym (ap (laid Over s d) (whole s.a)) ∙ sym (composed_laid Over s d 255 (λ e. cc))
  where
    go : (t : Bool) → (weight s.a d.a == 0) ≡ t → if_canonical r g b a ≡ (if t then clear else rgba (channel Over s.a d.a s.r d.r) (channel Over s.a d.a s.g d.g) (channel Over s.a d.a s.b d.b) (nearest (weight s.a d.a) 255))
    go true e =
        let none : weight s.a d.a ≡ 0 = grind (arith, nat_tests) in
        rw (test_true a (ea ∙ ap (λ n. nearest n 255) (weight_is s.a d.a h ∙ none))) refl
    go false e =
        let some : weight s.a d.a ≢ 0 = grind (arith, nat_tests) in
        let least : 255 ≤ weight s.a d.a = heavy s.a d.a h k some in
        let covers : 0 < 255 * s.a + (255 - s.a) * d.a = omega (arith, weight_is s.a d.a h) in
        let alpha : a ≡ nearest (weight s.a d.a) 255 = ea ∙ ap (λ n. nearest n 255) (weight_is s.a d.a h) in
        rw (test_false a (λ z. omega (arith, alpha))) (same_rgba (er covers ∙ channel_is s.a d.a s.r d.r h k) (eg covers ∙ channel_is s.a d.a s.g d.g h k) (eb covers ∙ channel_is s.a d.a s.b d.b h k) alpha)

-- 255 times as much by 255 times as much
scaled : (n : ℕ) → nearest (255 * n) 65025 ≡ nearest n 255
scaled n = omega arith

-- a channel over an opaque backdrop
pub mean_whole : (sa da s d c : ℕ) → sa ≤ 255 → da ≡ 255 → c ≡ nearest (sa * s + (255 - sa) * d) 255 → IsMean sa da s d c
mean_whole sa da s d c h o e some =
    let w : 65025 ≡ 255 * sa + (255 - sa) * da = rw o (omega arith) in
    let n : 255 * (sa * s + (255 - sa) * d) ≡ 255 * sa * s + (255 - sa) * da * d = rw o (omega arith) in
    e ∙ sym (scaled (sa * s + (255 - sa) * d)) ∙ ap (nearest (255 * (sa * s + (255 - sa) * d))) w ∙ ap (λ m. nearest m (255 * sa + (255 - sa) * da)) n

pub over_opaque_is : (s d : Rgba) (r g b : ℕ) → s.a ≤ 255 → d.a ≡ 255 → r ≡ nearest (s.a * s.r + (255 - s.a) * d.r) 255 → g ≡ nearest (s.a * s.g + (255 - s.a) * d.g) 255
    → b ≡ nearest (s.a * s.b + (255 - s.a) * d.b) 255 → if_canonical r g b 255 ≡ compose Over s d 255
over_opaque_is s d r g b h o er eg eb =
    over_is s d r g b 255 h (omega (arith, o)) (mean_whole s.a d.a s.r d.r r h o er) (mean_whole s.a d.a s.g d.g g h o eg) (mean_whole s.a d.a s.b d.b b h o eb)
    (rw o (let w : 65025 ≡ 255 * s.a + (255 - s.a) * 255 = omega arith in ap (λ m. nearest m 255) w))

-- the three parts of the weight
pub shares_are : (sa da : ℕ) → sa ≤ 255 → da ≤ 255 → (255 - da) * sa + (255 - sa) * da + sa * da ≡ weight sa da
shares_are sa da h k =
    let e : (255 - da) + da ≡ 255 = omega arith in
    let p : (255 - da) * sa + da * sa ≡ 255 * sa = (let q : ((255 - da) + da) * sa ≡ 255 * sa = ap (λ n. n * sa) e in omega (arith, q)) in
    omega (arith, p, weight_is sa da h)

pub weight_cover : (sa da : ℕ) → sa ≤ 255 → da ≤ 255 → 65025 - (255 - sa) * (255 - da) ≡ weight sa da
weight_cover sa da h k = cover_is sa da h k ∙ weight_is sa da h

pub shares_most : (sa da : ℕ) → sa ≤ 255 → da ≤ 255 → (255 - da) * sa + (255 - sa) * da + sa * da ≤ 65025
shares_most sa da h k = omega (arith, shares_are sa da h k, weight_is sa da h, parts_most sa da h k)

-- a channel of three parts, where anything covers
abbrev pub IsThirdMean : ℕ → ℕ → ℕ → ℕ → ℕ → ℕ → Type 0
IsThirdMean sa da s d f c = 0 < (255 - da) * sa + (255 - sa) * da + sa * da → c ≡ nearest ((255 - sa) * da * d + (255 - da) * sa * s + sa * da * f) ((255 - da) * sa + (255 - sa) * da + sa * da)

third_is : (op : Op) (sa da s d f c : ℕ) → sa ≤ 255 → da ≤ 255 → f ≡ blend op s d → 0 < weight sa da → IsThirdMean sa da s d f c → c ≡ channel op sa da s d
third_is op sa da s d f c h k e some m =
    m (omega (arith, shares_are sa da h k))
    ∙ ap (λ x. nearest ((255 - sa) * da * d + (255 - da) * sa * s + sa * da * x) ((255 - da) * sa + (255 - sa) * da + sa * da)) e
    ∙ ap (nearest ((255 - sa) * da * d + (255 - da) * sa * s + sa * da * blend op s d)) (shares_are sa da h k)

-- the pixel of these channels is the composed one
pub blended_is : (op : Op) (s d : Rgba) (r g b a x y z : ℕ) → op ≢ Erase → s.a ≤ 255 → d.a ≤ 255
    → x ≡ blend op s.r d.r → y ≡ blend op s.g d.g → z ≡ blend op s.b d.b
    → IsThirdMean s.a d.a s.r d.r x r → IsThirdMean s.a d.a s.g d.g y g → IsThirdMean s.a d.a s.b d.b z b
    → a ≡ nearest (weight s.a d.a) 255 → if_canonical r g b a ≡ compose op s d 255
blended_is op s d r g b a x y z o h k ex ey ez er eg eb ea = go (weight s.a d.a == 0) refl ∙ sym (ap (laid op s d) (whole s.a)) ∙ sym (composed_laid op s d 255 o)
  where
    go : (t : Bool) → (weight s.a d.a == 0) ≡ t → if_canonical r g b a ≡ (if t then clear else rgba (channel op s.a d.a s.r d.r) (channel op s.a d.a s.g d.g) (channel op s.a d.a s.b d.b) (nearest (weight s.a d.a) 255))
    go true e =
        let none : weight s.a d.a ≡ 0 = grind (arith, nat_tests) in
        rw (test_true a (ea ∙ ap (λ n. nearest n 255) none)) refl
    go false e =
        let some : weight s.a d.a ≢ 0 = grind (arith, nat_tests) in
        let least : 255 ≤ weight s.a d.a = heavy s.a d.a h k some in
        let pos : 0 < weight s.a d.a = omega arith in
        rw (test_false a (λ q. omega (arith, ea))) (same_rgba (third_is op s.a d.a s.r d.r x r h k ex pos er) (third_is op s.a d.a s.g d.g y g h k ey pos eg) (third_is op s.a d.a s.b d.b z b h k ez pos eb) ea)
