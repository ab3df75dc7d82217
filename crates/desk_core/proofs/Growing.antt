-- Damage grows by rectangles.
use Rattle.std.proofs.Common.{◌≡◌, ℕ, ◌+◌, ◌<◌, true, false, List, [], ◌∷◌, ◌++◌, take, length, get_or, sym, ap, ◌∙◌, refl}
use Rattle.std.proofs.lemmas.List.{take_more}
use Rattle.std.proofs.lemmas.List.Folds.{list_any-append}
use Rattle.geom_core.specs.Areas.{Area, holds, Point}
use Rattle.geom_core.specs.Rects.{any_holds}
use Rattle.geom_core.specs.Grid.{key_of}
use Rattle.geom_core.proofs.Tests.{neither}
use Rattle.frame_core.specs.Marks.{on_canvas}
use Rattle.frame_core.specs.Damage.{Parts, is_damaged}
use Rattle.frame_core.specs.Damage.{Adds}
use Rattle.frame_core.proofs.DamagedPoints.{undamaged_before, undamaged_outside}

-- one rectangle more
pub rect_more : (rects : List Area) (i : ℕ) (r : Area) (first mid last : Parts) → i < length rects → r ≡ get_or rects i r → Adds r mid last
    → ((p : Point) → on_canvas (key_of p) ≡ true → is_damaged mid p ≡ false → (is_damaged first p ≡ false) × (any_holds (take i rects) p ≡ false))
    → (p : Point) → on_canvas (key_of p) ≡ true → is_damaged last p ≡ false → (is_damaged first p ≡ false) × (any_holds (take (i + 1) rects) p ≡ false)
rect_more rects i r first mid last h at adds so_far p on whole = (
  (so_far p on (undamaged_before r mid last adds p whole)).0,
  ap (λ rs. any_holds rs p) (take_more rects i r h ∙ ap (λ (x : Area). take i rects ++ x ∷ []) (sym at))
      ∙ list_any-append (λ a. holds a p) (take i rects) (r ∷ [])
      ∙ neither _ _ (so_far p on (undamaged_before r mid last adds p whole)).1 (neither _ _ (undamaged_outside r mid last adds p on whole) refl),
)
