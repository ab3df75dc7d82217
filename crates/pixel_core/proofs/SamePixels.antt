-- The test of pixels.
use Rattle.std.proofs.Common.{◌≡◌, ◌≢◌, true, false, arith, subst}
use Rattle.std.proofs.lemmas.Bool.Decides.{nat_tests}
use Rattle.pixel_core.specs.Rgba.{Rgba, rgba, same_pixel}

same_pixel-refl : (p : Rgba) → same_pixel p p ≡ true
same_pixel-refl p = grind (arith, nat_tests)

-- it tells whether they are one
pub same_pixel-Decides : (p q : Rgba) → (same_pixel p q ≡ true → p ≡ q) × (p ≡ q → same_pixel p q ≡ true)
same_pixel-Decides p q = ((λ t. one p q t), (λ e. subst (λ v. same_pixel p v ≡ true) e (same_pixel-refl p)))
  where
    one : (p q : Rgba) → same_pixel p q ≡ true → p ≡ q
    one p q t =
        let er : p.r ≡ q.r = grind (arith, nat_tests) in
        let eg : p.g ≡ q.g = grind (arith, nat_tests) in
        let eb : p.b ≡ q.b = grind (arith, nat_tests) in
        let ea : p.a ≡ q.a = grind (arith, nat_tests) in
        λ i. rgba (er i) (eg i) (eb i) (ea i)

-- pixels that it tells apart differ
pub other_pixel : (p q : Rgba) → same_pixel p q ≡ false → p ≢ q
other_pixel p q f e = let t : same_pixel p q ≡ true = (same_pixel-Decides p q).1 e in cc
