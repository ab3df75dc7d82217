-- Portable pixmaps of kind P6, as Netpbm's page on PPM has them.
use Rattle.std.specs.Prelude.{ℕ, List, [], ◌∷◌, ◌++◌, codes}
use Rattle.std.specs.List.{concat}
use Rattle.std.specs.Fmt.{decimal}
use Rattle.doc_model.specs.Picture.{Frame}

-- the kind, the columns and rows, and the largest value of a colour
abbrev pub header : ℕ → ℕ → List ℕ
header w h = concat (codes "P6\n" ∷ decimal w ∷ codes " " ∷ decimal h ∷ codes "\n255\n" ∷ [])

-- a frame of w columns and h rows as a pixmap
abbrev pub frame_bytes : ℕ → ℕ → Frame → List ℕ
frame_bytes w h frame = header w h ++ concat frame
