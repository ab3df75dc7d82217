-- Dabs of tracks, laid straight on the pixels of a tile.
use Rattle.std.specs.Prelude.{◌≡◌, ◌≤◌, ◌<◌, ◌+◌, ◌*◌, ℕ, ℤ, pos, ◌+ℤ◌, ◌-ℤ◌, ◌<ℤ◌, int_lt, Bool, true, false, ◌&&◌, if◌then◌else◌, ◌⊎◌, List, map}
use Rattle.std.specs.List.{list_all}
use Rattle.geom_core.specs.Areas.{Point, Area, lies_in, meets, world}
use Rattle.geom_core.specs.Grid.{Key}
use Rattle.tile_core.specs.Pixels.{Pixels, pixel_at}
use Rattle.doc_model.specs.declared.track.Stamp.{Stamp}
use Rattle.doc_model.specs.declared.track.Segment.{Segment}
use Rattle.doc_model.specs.Trails.{along, how_many_on, on_segment}
use Rattle.doc_model.specs.Tracks.{point_of}
use Rattle.doc_model.specs.Jobs.{square, all_stamped}
use Rattle.doc_model.specs.Shots.{in_tile}
use Rattle.job_core.specs.declared.ink.Ink.{Ink}
use Rattle.job_core.specs.declared.dabs.Brush.{Brush}

-- the tile has the new pixels where dabs round these points are laid on the old ones, one after another
abbrev pub LaysStamps : Key → Stamp → List Point → Pixels → Pixels → Type 0
LaysStamps key s cs old new = (p : Point) → in_tile key p ≡ true → pixel_at new p ≡ all_stamped s cs p (pixel_at old p)

-- the points of a segment round which dabs lie
abbrev pub points_on : ℕ → Segment → List Point
points_on gap segment = on_segment gap (point_of segment.from) (point_of segment.to)

-- the dabs round these points lie in the world
abbrev pub AllInside : Stamp → List Point → Type 0
AllInside s cs = list_all (λ a. lies_in a world) (map (λ (c : Point). square c.x c.y s.r) cs) ≡ true

-- of a segment's dabs all that meet a rectangle stand at places from one up to another
pub record IsNear (p q : Point) (gap r : ℕ) (bounds : Area) (first end : ℕ) : Type 0 where
  pub order : first ≤ end
  pub inside : end ≤ how_many_on gap p q
  pub apart : (k : ℕ) → k < how_many_on gap p q → (k < first) ⊎ (end ≤ k) → meets (square (along p q (k * gap)).x (along p q (k * gap)).y r) bounds ≡ false

-- the brush and the ink of a stamp round a point
abbrev pub brush_of : Stamp → Point → Brush
brush_of s c = record { x = c.x; y = c.y; r = s.r; soft = s.soft }

abbrev pub ink_of : Stamp → Ink
ink_of s = record { colour = s.colour; op = s.op; strength = s.strength }

-- where n steps from a place lead along one axis, forward or back
abbrev pub stands : ℤ → Bool → ℕ → ℤ
stands from back n = if back then from -ℤ pos n else from +ℤ pos n

-- whether a dab round a place reaches a part of the axis
abbrev pub reaches : ℤ → ℕ → ℤ → ℕ → Bool
reaches x r start size = int_lt (x -ℤ pos r) (start +ℤ pos size) && int_lt start ((x -ℤ pos r) +ℤ pos (2 * r + 1))

-- the steps n lie before or behind a row of them
abbrev pub IsBeside : ℤ → ℤ → ℕ → Type 0
IsBeside low high n = (pos n <ℤ low) ⊎ (high <ℤ pos n)

-- of so many multiples of a gap all within a row of steps stand at places from one up to another
pub record AreWithin (low high : ℤ) (gap count first end : ℕ) : Type 0 where
  pub order : first ≤ end
  pub inside : end ≤ count
  pub apart : (k : ℕ) → k < count → (k < first) ⊎ (end ≤ k) → IsBeside low high (k * gap)
