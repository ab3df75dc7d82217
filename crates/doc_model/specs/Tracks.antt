-- How a track is kept.
use Rattle.std.specs.Prelude.{◌≡◌, suc, ◌-◌, ℤ, pos, List, [], ◌∷◌, ◌++◌, map, length, take, replicate, refl}
use Rattle.std.proofs.Common.{ap, ◌∙◌}
use Rattle.geom_core.specs.Areas.{Point, point}
use Rattle.doc_model.specs.declared.track.Track.TheInside.{Inside}
use Rattle.doc_model.specs.Trails.{Trail, trail}
use Rattle.doc_model.specs.TrailRules.{IsTrail}

-- a point by the pair of its coordinates, and back
abbrev pub point_of : ℤ × ℤ → Point
point_of t = point t.0 t.1

abbrev pub pair_of : Point → ℤ × ℤ
pair_of p = (p.x, p.y)

-- the points that are used of those that are kept
abbrev pub seen : Inside → Trail
seen t = trail (map point_of (take t.len t.points)) t.gap t.stamp

-- eight points, of which those behind the last are (0, 0)
abbrev pub padded : List (ℤ × ℤ) → List (ℤ × ℤ)
padded ps = ps ++ replicate (8 - length ps) (pos 0, pos 0)

-- and back
abbrev pub kept : Trail → Inside
kept t = record { points = padded (map pair_of t.points); len = length t.points; gap = t.gap; stamp = t.stamp }

-- the points that aren't used are (0, 0)
pub record IsTrack (t : Inside) : Type 0 where
  pub trail : IsTrail (seen t)
  pub rest : padded (take t.len t.points) ≡ t.points
  pub len : length (take t.len t.points) ≡ t.len

back : (ps : List (ℤ × ℤ)) → map pair_of (map point_of ps) ≡ ps
back [] = refl
back (p ∷ ps) = ap (λ qs. p ∷ qs) (back ps)

length-seen : (ps : List (ℤ × ℤ)) → length (map point_of ps) ≡ length ps
length-seen [] = refl
length-seen (p ∷ ps) = ap (λ n. suc n) (length-seen ps)

-- what is seen of a track tells all of it
pub kept-seen : (t : Inside) → IsTrack t → kept (seen t) ≡ t
kept-seen t h =
    let points : padded (map pair_of (map point_of (take t.len t.points))) ≡ t.points = ap padded (back (take t.len t.points)) ∙ h.rest in
    let len : length (map point_of (take t.len t.points)) ≡ t.len = length-seen (take t.len t.points) ∙ h.len in
    λ i. record { points = points i; len = len i; gap = t.gap; stamp = t.stamp }
