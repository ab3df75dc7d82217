-- Rows of the groups that are open while a tile is composed, and what a ply makes of them.
use Rattle.std.specs.Prelude.{ℕ, zero, suc, ◌*◌, List, [], ◌∷◌, map, take, drop, slice_index_or}
use Rattle.pixel_core.specs.Rgba.{Rgba, clear}
use Rattle.pixel_core.specs.Compose.{compose}
use Rattle.pixel_core.specs.declared.blending.Op.{Op}

-- of rows of 64 pixels, one after another, the row of a place
abbrev pub row_at : List Rgba → ℕ → List Rgba
row_at pixels place = take 64 (drop (64 * place) pixels)

-- the rows up to that place, the last one first
abbrev pub innermost_first : List Rgba → ℕ → List (List Rgba)
innermost_first pixels zero = row_at pixels 0 ∷ []
innermost_first pixels (suc last) = row_at pixels (suc last) ∷ innermost_first pixels last

-- the pixels of all rows in one column
abbrev pub column : ℕ → List (List Rgba) → List Rgba
column k rows = map (λ r. slice_index_or r k clear) rows

-- a pixel is laid on the first of these
abbrev pub laid_on : Op → ℕ → Rgba → List Rgba → List Rgba
laid_on op opacity s [] = []
laid_on op opacity s (d ∷ ds) = compose op s d opacity ∷ ds

-- the first of these is laid on the one behind it
abbrev pub ended : Op → ℕ → List Rgba → List Rgba
ended op opacity [] = []
ended op opacity (s ∷ ds) = laid_on op opacity s ds
