-- How damage spreads, and where it is forgotten.
use Rattle.std.specs.Prelude.{◌≡◌, ◌⊎◌, true, false, List}
use Rattle.geom_core.specs.Areas.{Area, Point, holds}
use Rattle.geom_core.specs.Grid.{key_of}
use Rattle.geom_core.specs.Rects.{any_holds}
use Rattle.frame_core.specs.Damage.{Parts, is_damaged}
use Rattle.frame_core.specs.Marks.{on_canvas}

-- what isn't damaged now wasn't before, and no rectangle holds it
abbrev pub Damages : Parts → List Area → Parts → Type 0
Damages old rects new = (p : Point) → on_canvas (key_of p) ≡ true → is_damaged new p ≡ false → (is_damaged old p ≡ false) × (any_holds rects p ≡ false)

-- what isn't damaged now on the canvas wasn't before, or may be forgotten
abbrev pub Forgets : Area → (Point → Type 0) → Parts → Parts → Type 0
Forgets canvas May old new = (p : Point) → holds canvas p ≡ true → on_canvas (key_of p) ≡ true → is_damaged new p ≡ false → (is_damaged old p ≡ false) ⊎ May p
