-- Rows of a dab.
use Rattle.std.specs.Prelude.{◌≡◌, ℕ, ◌<◌, ℤ, pos, ◌+ℤ◌, ◌-ℤ◌, List, length, slice_index_or}
use Rattle.pixel_core.specs.Rgba.{Rgba, clear}
use Rattle.pixel_core.specs.Compose.{compose, mul}
use Rattle.geom_core.specs.Areas.{Area}
use Rattle.job_core.specs.declared.ink.Ink.{Ink}
use Rattle.job_core.specs.declared.dabs.Brush.{Brush}
use Rattle.job_core.specs.Laid.{Change}
use Rattle.job_core.specs.Made.{strength_at}

-- the ink on a pixel, with the dab's strength at a distance from the centre
abbrev pub brushed : Brush → Ink → ℤ → ℤ → Rgba → Rgba
brushed brush ink dx dy d = compose ink.op ink.colour d (strength_at brush ink dx dy)

-- the dab's strengths along a row, of which the first place is (dx, dy) from the centre
abbrev pub HasStrengths : Brush → Ink → ℤ → ℤ → List ℕ → Type 0
HasStrengths brush ink dx dy row = (k : ℕ) → k < length row → slice_index_or row k 0 ≡ strength_at brush ink (dx +ℤ pos k) dy

-- each of a row's strengths is multiplied by one
abbrev pub WeakensRow : ℕ → List ℕ → List ℕ → Type 0
WeakensRow strength old new = (k : ℕ) → k < length old → slice_index_or new k 0 ≡ mul (slice_index_or old k 0) strength

-- the dab lies on each pixel of a row, of which the first is (dx, dy) from the centre
abbrev pub DabsRow : Brush → Ink → ℤ → ℤ → List Rgba → List Rgba → Type 0
DabsRow brush ink dx dy old new = (k : ℕ) → k < length old → slice_index_or new k clear ≡ brushed brush ink (dx +ℤ pos k) dy (slice_index_or old k clear)

-- the dab on the pixels of a part, of which the first is (dx, dy) from the centre
abbrev pub brushed_from : Brush → Ink → ℤ → ℤ → Change
brushed_from brush ink dx dy col row d = brushed brush ink (dx +ℤ pos col) (dy +ℤ pos row) d

-- the dab on the pixels of a rectangle of the world
abbrev pub dab_on : Brush → Ink → Area → Change
dab_on brush ink a = brushed_from brush ink (a.x -ℤ brush.x) (a.y -ℤ brush.y)
