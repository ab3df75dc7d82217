-- Rows of a picture that are to be laid in a band.
use Rattle.std.specs.Prelude.{◌≡◌, ℕ, suc, ◌%◌, ◌<◌, List, length, slice_get, slice_index_or, Some}
use Rattle.std.specs.FinMap as map
use Rattle.pixel_core.specs.Rgba.{clear}
use Rattle.frame_core.specs.Frames.{Scene, scene, Shows}
use Rattle.frame_core.specs.Films.{Follows, ShowsBefore}
use Rattle.ppm_out.specs.declared.rows.Rows.{Rows}
use Rattle.ppm_out.specs.declared.rows.Rows.TheVariants.{Of, After}

-- what a film has at no place
abbrev pub no_frame : Scene
no_frame = scene 1 1 clear map.empty

-- whose rows they are
abbrev pub scene_of : Rows → Scene
scene_of (Of frame) = frame.now
scene_of (After film i) = slice_index_or film.now i no_frame

-- where the rows follow those of the frame before, there is one of the same canvas
abbrev pub IsThere : Rows → Type 0
IsThere (Of frame) = Unit {0}
IsThere (After film i) = (i < length film.now) × Follows film.now i

-- the rows begin with the first one of a row of tiles where they follow others, whose colours stand in the band
abbrev pub StandsBefore : Rows → ℕ → ℕ → List ℕ → Type 0
StandsBefore (Of frame) y n band = Unit {0}
StandsBefore (After film i) y n band = (y % 64 ≡ 0) × ShowsBefore film.now i y n band

-- the picture shows the frame before that place, if there is one
abbrev pub ShowsFrameBefore : List Scene → ℕ → List ℕ → Type 0
ShowsFrameBefore scenes i picture = (k : ℕ) (before : Scene) → i ≡ suc k → slice_get scenes k ≡ Some before → Shows before picture

-- the same of rows that follow that frame's
abbrev pub PictureBefore : Rows → List ℕ → Type 0
PictureBefore (Of frame) picture = Unit {0}
PictureBefore (After film i) picture = ShowsFrameBefore film.now i picture
