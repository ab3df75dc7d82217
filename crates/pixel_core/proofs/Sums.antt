-- Bounds of the sums that compose pixels.
use Rattle.std.proofs.Common.{◌≡◌, ℕ, ◌+◌, ◌-◌, ◌*◌, ◌/◌, ◌≤◌, ◌<◌, arith, ap, refl, ◌≢◌, ◌==◌, true, false}
use Rattle.std.proofs.Math.Nat.{mul-le-mul_left, div-lt_iff_lt-mul}
use Rattle.pixel_core.specs.Compose.{weight, compose, laid, channel, mul, nearest}
use Rattle.pixel_core.specs.Rgba.{Rgba, if_canonical, rgba}
use Rattle.pixel_core.specs.declared.blending.Op.{Op}
use Rattle.pixel_core.specs.declared.blending.Op.TheVariants.{Over, Erase, Multiply, Screen, Addition}
use Rattle.std.proofs.lemmas.Bool.Decides.{nat_tests}

-- u is what is left of sa to 255, v of da
sum_most : (u v sa da s d f : ℕ) → u + sa ≡ 255 → v + da ≡ 255 → s ≤ 255 → d ≤ 255 → f ≤ 255 → u * da * d + v * sa * s + sa * da * f ≤ 255 * (u * da + v * sa + sa * da)
sum_most u v sa da s d f e h ps pd pf = omega (arith, mul-le-mul_left (u * da) pd, mul-le-mul_left (v * sa) ps, mul-le-mul_left (sa * da) pf)

-- the three parts of the weight
parts : (u v sa da : ℕ) → u + sa ≡ 255 → v + da ≡ 255 → u * da + v * sa + sa * da ≡ 255 * (sa + da) - sa * da
parts u v sa da e h =
    let p : (u + sa) * da ≡ 255 * da = ap (λ n. n * da) e in
    let q : (v + da) * sa ≡ 255 * sa = ap (λ n. n * sa) h in
    omega (arith, p, q)

pub most : (sa da s d f : ℕ) → sa ≤ 255 → da ≤ 255 → s ≤ 255 → d ≤ 255 → f ≤ 255 → (255 - sa) * da * d + (255 - da) * sa * s + sa * da * f ≤ 255 * (255 * (sa + da) - sa * da)
most sa da s d f a b ps pd pf = omega (arith, sum_most (255 - sa) (255 - da) sa da s d f (omega arith) (omega arith) ps pd pf, parts (255 - sa) (255 - da) sa da (omega arith) (omega arith))

pub weight_most : (sa da : ℕ) → sa ≤ 255 → da ≤ 255 → 255 * (sa + da) - sa * da ≤ 65025
weight_most sa da a b =
    let e : (255 - sa) + sa ≡ 255 = omega arith in
    let p : (255 - sa) * (255 - da) + sa * (255 - da) ≡ 255 * (255 - da) = omega (arith, ap (λ n. n * (255 - da)) e) in
    let q : sa * (255 - da) + sa * da ≡ sa * 255 = omega (arith, ap (λ n. sa * n) (let g : (255 - da) + da ≡ 255 = omega arith in g)) in
    omega (arith, p, q)

-- a quotient of sums within these bounds is a byte
pub byte : (n w : ℕ) → 0 < w → n ≤ 255 * w → (2 * n + w) / (2 * w) < 256
byte n w pos h = grind (arith, div-lt_iff_lt-mul)

-- the product as a byte of two bytes
pub mul_most : (s d : ℕ) → s ≤ 255 → d ≤ 255 → mul s d ≤ s + d
unfolding mul
mul_most s d a b =
    let p : s * d ≤ 255 * d = grind arith in
    omega (arith, p)

pub mul_least : (s d : ℕ) → s ≤ 255 → d ≤ 255 → s + d ≤ mul s d + 255
unfolding mul
mul_least s d a b =
    let e : (255 - s) * (255 - d) + s * (255 - d) ≡ 255 * (255 - d) = (let g : (255 - s) + s ≡ 255 = omega arith in omega (arith, ap (λ n. n * (255 - d)) g)) in
    let f : s * (255 - d) + s * d ≡ s * 255 = (let g : (255 - d) + d ≡ 255 = omega arith in omega (arith, ap (λ n. s * n) g)) in
    omega (arith, e, f)

pub erase_is : (op : Op) (s d : Rgba) (m sa alpha : ℕ) → op ≡ Erase → sa ≡ mul s.a m → alpha ≡ mul d.a (255 - sa) → if_canonical d.r d.g d.b alpha ≡ compose op s d m
unfolding compose
erase_is Erase s d m sa alpha e f g = rw (g, f) refl
erase_is Over s d m sa alpha e f g = cc
erase_is Multiply s d m sa alpha e f g = cc
erase_is Screen s d m sa alpha e f g = cc
erase_is Addition s d m sa alpha e f g = cc

pub composed_laid : (op : Op) (s d : Rgba) (m : ℕ) → op ≢ Erase → compose op s d m ≡ laid op s d (mul s.a m)
unfolding compose
composed_laid Erase s d m e = absurd (e refl)
composed_laid Over s d m e = refl
composed_laid Multiply s d m e = refl
composed_laid Screen s d m e = refl
composed_laid Addition s d m e = refl

pub test_false : (n : ℕ) → n ≢ 0 → (n == 0) ≡ false
test_false n h = grind (arith, nat_tests)

pub test_true : (n : ℕ) → n ≡ 0 → (n == 0) ≡ true
test_true n h = grind (arith, nat_tests)

pub heavy : (sa da : ℕ) → sa ≤ 255 → da ≤ 255 → weight sa da ≢ 0 → 255 ≤ weight sa da
heavy sa da a b h = grind (arith, parts (255 - sa) (255 - da) sa da)

pub same_rgba : {r r' g g' b b' a a' : ℕ} → r ≡ r' → g ≡ g' → b ≡ b' → a ≡ a' → rgba r g b a ≡ rgba r' g' b' a'
same_rgba p q t u i = rgba (p i) (q i) (t i) (u i)

pub laid_open : (op : Op) (s d : Rgba) (sa : ℕ) → weight sa d.a ≢ 0 → laid op s d sa ≡ rgba (channel op sa d.a s.r d.r) (channel op sa d.a s.g d.g) (channel op sa d.a s.b d.b) (nearest (weight sa d.a) 255)
laid_open op s d sa z = rw (test_false (weight sa d.a) z) refl
