-- Tracks: dabs in a row along a polyline.
use Rattle.std.specs.Prelude.{ℕ, ◌*◌, pos, ◌+ℤ◌, ◌-ℤ◌, ◌*ℤ◌, nat_abs, max, List, [], ◌∷◌, ◌++◌, map}
use Rattle.std.specs.Int.{div_ceil}
use Rattle.std.specs.List.{range_with_len}
use Rattle.geom_core.specs.Areas.{Point, point}
use Rattle.geom_core.specs.Grid.{floor_by}
use Rattle.doc_model.specs.declared.track.Stamp.{Stamp}
use Rattle.doc_model.specs.contracts.track.Stamp as stamp

-- a polyline by its points, how far apart the dabs along it stand, and what each of them paints
pub record Trail : Type 0 where
  pub points : List Point
  pub gap : ℕ
  pub stamp : Stamp

-- these parts together
abbrev pub trail : List Point → ℕ → Stamp → Trail
trail ps gap s = record { points = ps; gap = gap; stamp = s }

-- how far apart two points are: the greater of their distances across and down
abbrev pub distance : Point → Point → ℕ
distance p q = max (nat_abs (q.x -ℤ p.x)) (nat_abs (q.y -ℤ p.y))

-- the point n steps from p towards q, of as many steps as they are apart, each coordinate rounded down
abbrev pub along : Point → Point → ℕ → Point
along p q n = point (p.x +ℤ floor_by (distance p q) ((q.x -ℤ p.x) *ℤ pos n)) (p.y +ℤ floor_by (distance p q) ((q.y -ℤ p.y) *ℤ pos n))

-- how many dabs stand on a segment: one for each number k with k * gap less than its length, so one each gap from its first point on, and none at its last
abbrev pub how_many_on : ℕ → Point → Point → ℕ
how_many_on gap p q = div_ceil (distance p q) gap

-- the centres of these dabs
unfoldable pub on_segment : ℕ → Point → Point → List Point
on_segment gap p q = map (λ k. along p q (k * gap)) (range_with_len 0 (how_many_on gap p q))

-- the centres along a polyline: those on each of its segments, and one at its last point
abbrev pub centres_along : ℕ → List Point → List Point
centres_along gap [] = []
centres_along gap (p ∷ []) = p ∷ []
centres_along gap (p ∷ q ∷ rest) = on_segment gap p q ++ centres_along gap (q ∷ rest)

-- the centres of a track's dabs, the first of them first
abbrev pub centres : Trail → List Point
centres t = centres_along t.gap t.points
