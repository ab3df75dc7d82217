-- Facts on tests and choices that several proofs share.
use Rattle.std.proofs.Common.{◌≡◌, Bool, true, false, ◌&&◌, refl, arith}
use Rattle.pixel_core.specs.Rgba.{Rgba}
use Rattle.doc_model.specs.declared.tree.Look.{Look}
use Rattle.doc_model.specs.Picture.{with_look}
use Rattle.geom_core.proofs.Tests.{and-false, no_second, no_first}

-- the second test counts only where the first passes
pub same_and : (a b c : Bool) → (a ≡ true → b ≡ c) → (a && b) ≡ (a && c)
same_and true b c e = e refl
same_and false b c e = refl

-- the same pixel with the same look on the same backdrop
pub same_laid : {l m : Look} {x y b c : Rgba} → l ≡ m → x ≡ y → b ≡ c → with_look l x b ≡ with_look m y c
same_laid p q r i = with_look (p i) (q i) (r i)
