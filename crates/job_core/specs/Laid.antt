-- Rows of pixels laid over others.
use Rattle.std.specs.Prelude.{◌≡◌, ℕ, ◌+◌, ◌-◌, ◌*◌, ◌<◌, true, if◌then◌else◌, List, replicate, slice_index_or}
use Rattle.pixel_core.specs.Rgba.{Rgba, clear}
use Rattle.geom_core.specs.Areas.{Area, holds, Point}
use Rattle.geom_core.specs.Rects.{place_in}
use Rattle.tile_core.specs.declared.rows.Part.{Part}
use Rattle.tile_core.specs.Parts.{in_part}
use Rattle.tile_core.specs.Pixels.{Pixels}
use Rattle.pixel_core.specs.Compose.{compose}
use Rattle.job_core.specs.declared.ink.Ink.{Ink}

-- a change of pixels by the column and the row where they stand in a part
abbrev pub Change : Type 0
Change = ℕ → ℕ → Rgba → Rgba

-- in rows of some width the pixels of a part are changed, and the others are as they were
abbrev pub ChangesRows : Change → ℕ → ℕ → ℕ → ℕ → ℕ → List Rgba → List Rgba → Type 0
ChangesRows f width left top w h old new = (col row : ℕ) → col < width
    → slice_index_or new (row * width + col) clear ≡ (if in_part left top w h col row then f (col - left) (row - top) (slice_index_or old (row * width + col) clear) else slice_index_or old (row * width + col) clear)

-- they are changed so on this part
abbrev pub ChangesPart : Change → ℕ → Part → List Rgba → List Rgba → Type 0
ChangesPart f width part old new = ChangesRows f width part.left part.top part.w part.h old new

-- the ink laid on a pixel
abbrev pub inked : Ink → Change
inked ink col row d = compose ink.op ink.colour d ink.strength

-- the ink leaves this of each of a tile's pixels
abbrev pub LeavesAll : Ink → Pixels → Rgba → Type 0
LeavesAll ink tile c = (k : ℕ) → k < 4096 → inked ink 0 0 (slice_index_or tile k clear) ≡ c

-- where the ink leaves one pixel of all of a tile's, a change leaves that too
abbrev pub PlainAs : (Pixels → Pixels → Type 0) → Ink → Type 0
PlainAs Lays ink = (old : Pixels) (c : Rgba) → LeavesAll ink old c → Lays old (replicate 4096 c)

-- the pixel of a source in rows of w pixels
abbrev pub row_of : List Rgba → ℕ → Change
row_of src w col row d = slice_index_or src (row * w + col) clear

-- the new pixels, in rows of some width, have these ones on a part, and the old ones elsewhere
abbrev pub LaysRows : ℕ → ℕ → ℕ → ℕ → ℕ → List Rgba → List Rgba → List Rgba → Type 0
LaysRows width left top w h src old new = ChangesRows (row_of src w) width left top w h old new

-- the new pixels of a rectangle have a part's pixels on the part, and the old ones elsewhere
abbrev pub LaysOver : Area → Area → List Rgba → List Rgba → List Rgba → Type 0
LaysOver a part src old new = (p : Point) → holds a p ≡ true
    → slice_index_or new (place_in a p) clear ≡ (if holds part p then slice_index_or src (place_in part p) clear else slice_index_or old (place_in a p) clear)
