use Rattle.std.proofs.Common.{◌≡◌, ◌-◌, ◌<◌, ℕ, suc, pos, true, [], ◌∷◌, Some, length, map, get_or, arith, sym, ap, subst, to_z, of_z, w32}
use Rattle.std.specs.Prelude.{slice_get}
use borrow.Author.Differences.{ints}
use Rattle.std.proofs.lemmas.Option.{slice_get-get_or}
use Rattle.std.proofs.lemmas.List.{length-map}
use Rattle.geom_core.specs.Areas.{Point, point, lies_in, world}
use Rattle.doc_model.specs.declared.track.Stamp.{Stamp}
use Rattle.doc_model.specs.Tracks.{point_of}
use Rattle.doc_model.specs.Jobs.{square}
use Rattle.job_core.specs.Tracks.{LaysStamps}
use Rattle.job_core.proofs.Tracked.{TrackSoFar, segment_inside, one_segment, last_inside, track_laid}
use Rattle.job_core.proofs.tracks.lay_track.Goals as goal

pub lay_segment-requires-clause-inside : goal.lay_segment-requires-clause-inside
lay_segment-requires-clause-inside c = segment_inside c.args.key c.stamp-stamp.result c.gap-gap.result c.points-points.result.now c.loop-i.i c.segment_at.result.from c.segment_at.result.to c.args.tile.now c.loop-i.tile c.segment_at.ensures.from c.segment_at.ensures.to c.loop-i.invariant

pub loop-i-preserved : goal.loop-i-preserved
loop-i-preserved c = one_segment c.args.key c.stamp-stamp.result c.gap-gap.result c.points-points.result.now c.loop-i.i c.segment_at.result.from c.segment_at.result.to c.args.tile.now c.loop-i.tile c.lay_segment.new.tile c.segment_at.ensures.from c.segment_at.ensures.to c.loop-i.invariant c.lay_segment.ensures

pub lay_stamp-requires-clause-inside : goal.lay_stamp-requires-clause-inside
lay_stamp-requires-clause-inside c =
    let long : length (map point_of c.points-points.result.now) ≡ length c.points-points.result.now = length-map c.points-points.result.now point_of in
    let same : length (map point_of c.points-points.result.now) ≡ length c.args.track.now.points = ap length c.points-points.ensures.value in
    let several = c.points-points.ensures.known.several in
    let there : length c.points-points.result.now - 1 < length c.points-points.result.now = omega arith in
    let at : c.loop-i.i ≡ length c.points-points.result.now - 1 = omega arith in
    let e : slice_get c.points-points.result.now (length c.points-points.result.now - 1) ≡ Some (get_or c.points-points.result.now (length c.points-points.result.now - 1) (pos 0, pos 0)) = slice_get-get_or c.points-points.result.now (length c.points-points.result.now - 1) (pos 0, pos 0) there in
    let l : suc (length c.points-points.result.now - 1) ≡ length c.points-points.result.now = omega arith in
    let x : to_z w32 (of_z w32 c.from.result) ≡ (get_or c.points-points.result.now (length c.points-points.result.now - 1) (pos 0, pos 0)).0 = omega (arith, ints) in
    let y : to_z w32 (of_z w32 c.from-2.result) ≡ (get_or c.points-points.result.now (length c.points-points.result.now - 1) (pos 0, pos 0)).1 = omega (arith, ints) in
    subst (λ (q : Point). lies_in (square q.x q.y c.stamp-stamp.result.r) world ≡ true) (λ i. point (sym x i) (sym y i))
    (last_inside c.args.key c.stamp-stamp.result c.gap-gap.result c.points-points.result.now (length c.points-points.result.now - 1) (get_or c.points-points.result.now (length c.points-points.result.now - 1) (pos 0, pos 0)) c.args.tile.now c.loop-i.tile (sym e) l
    (subst (λ j. TrackSoFar c.args.key c.stamp-stamp.result c.gap-gap.result c.points-points.result.now j c.args.tile.now c.loop-i.tile) at c.loop-i.invariant))

pub returns : goal.returns
returns c =
    let long : length (map point_of c.points-points.result.now) ≡ length c.points-points.result.now = length-map c.points-points.result.now point_of in
    let same : length (map point_of c.points-points.result.now) ≡ length c.args.track.now.points = ap length c.points-points.ensures.value in
    let several = c.points-points.ensures.known.several in
    let there : length c.points-points.result.now - 1 < length c.points-points.result.now = omega arith in
    let at : c.loop-i.i ≡ length c.points-points.result.now - 1 = omega arith in
    let e : slice_get c.points-points.result.now (length c.points-points.result.now - 1) ≡ Some (get_or c.points-points.result.now (length c.points-points.result.now - 1) (pos 0, pos 0)) = slice_get-get_or c.points-points.result.now (length c.points-points.result.now - 1) (pos 0, pos 0) there in
    let l : suc (length c.points-points.result.now - 1) ≡ length c.points-points.result.now = omega arith in
    let x : to_z w32 (of_z w32 c.from.result) ≡ (get_or c.points-points.result.now (length c.points-points.result.now - 1) (pos 0, pos 0)).0 = omega (arith, ints) in
    let y : to_z w32 (of_z w32 c.from-2.result) ≡ (get_or c.points-points.result.now (length c.points-points.result.now - 1) (pos 0, pos 0)).1 = omega (arith, ints) in
    track_laid c.args.key c.args.track.now c.points-points.result.now (length c.points-points.result.now - 1) (get_or c.points-points.result.now (length c.points-points.result.now - 1) (pos 0, pos 0)) c.args.tile.now c.loop-i.tile c.lay_stamp.new.tile c.points-points.ensures.value (sym e) l
    (subst (λ (w : Stamp × ℕ). TrackSoFar c.args.key w.0 w.1 c.points-points.result.now (length c.points-points.result.now - 1) c.args.tile.now c.loop-i.tile) (λ i. (c.stamp-stamp.ensures.value i, c.gap-gap.ensures.value i))
    (subst (λ j. TrackSoFar c.args.key c.stamp-stamp.result c.gap-gap.result c.points-points.result.now j c.args.tile.now c.loop-i.tile) at c.loop-i.invariant))
    (subst (λ (w : Stamp × Point). LaysStamps c.args.key w.0 (w.1 ∷ []) c.loop-i.tile c.lay_stamp.new.tile) (λ i. (c.stamp-stamp.ensures.value i, point (x i) (y i))) c.lay_stamp.ensures)
