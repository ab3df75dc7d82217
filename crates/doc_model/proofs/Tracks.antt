-- How a track is kept.
use Rattle.std.proofs.Common.{◌≡◌, ◌≤◌, ℕ, ℤ, pos, length, arith, take, drop, ◌++◌, List, [], ◌∷◌, map, replicate, ap, sym, ◌∙◌, refl, subst, rules, Bool, true, ◌&&◌, nat_eq}
use Rattle.std.specs.Bool.{beq}
use Rattle.pixel_core.specs.declared.blending.Op.{Op}
use Rattle.pixel_core.specs.contracts.blending.OpPartialEq.TheImpl as ops
use Rattle.pixel_core.specs.Rgba.{Rgba, same_pixel}
use Rattle.std.specs.Ordering.{int_eq}
use Rattle.std.proofs.lemmas.Bool.Decides.{nat_tests}
use lib.Pointwise.{pointwise}
use Rattle.geom_core.proofs.Tests.{and_left, and_right}
use Rattle.std.proofs.lemmas.List.{drop-replicate, length-map}
use Rattle.std.proofs.Math.Seq.{take-append_seam}
use Rattle.geom_core.specs.Areas.{Point}
use Rattle.doc_model.specs.declared.track.Stamp.{Stamp}
use Rattle.doc_model.specs.declared.track.Track.TheInside.{Inside}
use Rattle.doc_model.specs.contracts.track.StampPartialEq.TheImpl as stamps
use Rattle.doc_model.specs.contracts.track.TrackPartialEq.TheImpl as tracks
use Rattle.doc_model.specs.Trails.{Trail, trail}
use Rattle.doc_model.specs.TrailRules.{IsTrail}
use Rattle.doc_model.specs.Tracks.{point_of, pair_of, seen, kept, padded, IsTrack}

-- these points, and (0, 0) behind them
abbrev pub kept_as : List (ℤ × ℤ) → ℕ → Stamp → Inside
kept_as ps gap s = record { points = ps ++ drop (length ps) (replicate 8 (pos 0, pos 0)); len = length ps; gap = gap; stamp = s }

taken : (ps : List (ℤ × ℤ)) → take (length ps) (ps ++ drop (length ps) (replicate 8 (pos 0, pos 0))) ≡ ps
taken ps = take-append_seam ps _

pub seen_as : (ps : List (ℤ × ℤ)) (gap : ℕ) (s : Stamp) → seen (kept_as ps gap s) ≡ trail (map point_of ps) gap s
seen_as ps gap s = ap (λ qs. trail (map point_of qs) gap s) (taken ps)

pub is_track : (ps : List (ℤ × ℤ)) (gap : ℕ) (s : Stamp) → 2 ≤ length ps → length ps ≤ 8 → 1 ≤ gap → gap ≤ 255 → s.r ≤ 128 → IsTrack (kept_as ps gap s)
is_track ps gap s several few wide narrow small =
    let long : length (map point_of ps) ≡ length ps = length-map ps point_of in
    record {
      trail = subst (λ t. IsTrail t) (sym (seen_as ps gap s)) (record { several = omega arith; few = omega arith; gap = (wide, narrow); radius = small });
      rest = ap padded (taken ps) ∙ ap (λ qs. ps ++ qs) (sym (drop-replicate (length ps) 8 (pos 0, pos 0)));
      len = ap length (taken ps);
    }

-- tracks that are told to be one are

same_numbers : (a b : ℕ) → nat_eq a b ≡ true → a ≡ b
same_numbers a b e = grind (arith, nat_tests)

same_coordinates : (a b : ℤ) → int_eq a b ≡ true → a ≡ b
same_coordinates a b e = search rules

same_bools : (a b : Bool) → beq a b ≡ true → a ≡ b
same_bools a b e = search rules

same_colours : (a b : Rgba) → same_pixel a b ≡ true → a ≡ b
same_colours a b e = search rules

same_ops : (a b : Op) → (ops.ghosts).eq a b ≡ true → a ≡ b
same_ops a b e = search rules

same_stamp : (a b : Stamp) → (stamps.ghosts).eq a b ≡ true → a ≡ b
same_stamp a b e =
    let e1 = and_right (nat_eq a.r b.r) _ e in
    let e2 = and_right (beq a.soft b.soft) _ e1 in
    let e3 = and_right (same_pixel a.colour b.colour) _ e2 in
    let r = same_numbers a.r b.r (and_left _ _ e) in
    let soft = same_bools a.soft b.soft (and_left _ _ e1) in
    let colour = same_colours a.colour b.colour (and_left _ _ e2) in
    let op = same_ops a.op b.op (and_left _ _ e3) in
    let strength = same_numbers a.strength b.strength (and_right ((ops.ghosts).eq a.op b.op) _ e3) in
    λ i. record { r = r i; soft = soft i; colour = colour i; op = op i; strength = strength i }

same_pairs : (ps qs : List (ℤ × ℤ)) → pointwise (λ (s t : ℤ × ℤ). int_eq s.0 t.0 && int_eq s.1 t.1) ps qs ≡ true → ps ≡ qs
same_pairs [] [] e = refl
same_pairs [] (q ∷ qs) e = cc
same_pairs (p ∷ ps) [] e = cc
same_pairs (p ∷ ps) (q ∷ qs) e =
    let both = and_left (int_eq p.0 q.0 && int_eq p.1 q.1) _ e in
    let x = same_coordinates p.0 q.0 (and_left (int_eq p.0 q.0) _ both) in
    let y = same_coordinates p.1 q.1 (and_right (int_eq p.0 q.0) _ both) in
    let rest = same_pairs ps qs (and_right (int_eq p.0 q.0 && int_eq p.1 q.1) _ e) in
    λ i. (x i, y i) ∷ rest i

-- lists that are as long, before others
same_front : (ps qs : List Point) (r s : List (ℤ × ℤ)) → length ps ≡ length qs → (map pair_of ps ++ r) ≡ (map pair_of qs ++ s) → ps ≡ qs
same_front [] [] r s l e = refl
same_front [] (q ∷ qs) r s l e = cc
same_front (p ∷ ps) [] r s l e = cc
same_front (p ∷ ps) (q ∷ qs) r s l e =
    let first : pair_of p ≡ pair_of q = cc in
    let rest : (map pair_of ps ++ r) ≡ (map pair_of qs ++ s) = cc in
    let long : length ps ≡ length qs = omega arith in
    λ i. point_of (first i) ∷ same_front ps qs r s long rest i

pub same_trail : (a b : Trail) → (tracks.ghosts).eq a b ≡ true → a ≡ b
same_trail a b e =
    let pairs = pointwise (λ (s t : ℤ × ℤ). int_eq s.0 t.0 && int_eq s.1 t.1) (kept a).points (kept b).points in
    let behind = and_right pairs _ e in
    let long = same_numbers (length a.points) (length b.points) (and_left _ _ behind) in
    let others = and_right (nat_eq (length a.points) (length b.points)) _ behind in
    let gap = same_numbers a.gap b.gap (and_left _ _ others) in
    let stamp = same_stamp a.stamp b.stamp (and_right (nat_eq a.gap b.gap) _ others) in
    let points = same_front a.points b.points _ _ long (same_pairs (kept a).points (kept b).points (and_left pairs _ e)) in
    λ i. trail (points i) (gap i) (stamp i)
