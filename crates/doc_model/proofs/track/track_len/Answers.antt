use Rattle.std.proofs.Common.{◌≡◌, ◌+◌, length, drop, map, arith, sym, ap, ◌∙◌}
use Rattle.doc_model.specs.Trails.{centres_along}
use Rattle.doc_model.specs.Tracks.{point_of}
use Rattle.doc_model.proofs.Centres.{chain, length-cut_next, length-cut_last}
use Rattle.doc_model.proofs.track.track_len.Goals as goal

pub loop-i-preserved : goal.loop-i-preserved
loop-i-preserved c =
    let e : length (chain c.gap-gap.result (drop c.loop-i.i c.points-points.result.now)) ≡ c.dab_count-count.result + length (chain c.gap-gap.result (drop (c.loop-i.i + 1) c.points-points.result.now)) =
    length-cut_next c.gap-gap.result c.points-points.result.now c.loop-i.i c.segment_at.result.from c.segment_at.result.to c.segment_at.ensures.from c.segment_at.ensures.to
    ∙ ap (λ n. n + length (chain c.gap-gap.result (drop (c.loop-i.i + 1) c.points-points.result.now))) (sym c.dab_count-count.ensures.value) in
    record { counted = omega (arith, c.loop-i.invariant.counted); small = omega (arith, c.loop-i.invariant.small) }

pub returns : goal.returns
returns c =
    let same : length (map point_of c.points-points.result.now) ≡ length c.args.track.now.points = ap length c.points-points.ensures.value in
    let long : length (map point_of c.points-points.result.now) ≡ length c.points-points.result.now = Rattle.std.proofs.lemmas.List.length-map c.points-points.result.now point_of in
    let some = c.points-points.ensures.known.several in
    let one : length (chain c.gap-gap.result (drop c.loop-i.i c.points-points.result.now)) ≡ 1 = length-cut_last c.gap-gap.result c.points-points.result.now c.loop-i.i (omega arith) in
    let all : c.loop-i.count ≡ length (chain c.gap-gap.result c.points-points.result.now) = omega (arith, c.loop-i.invariant.counted) in
    all ∙ (λ i. length (centres_along (c.gap-gap.ensures.value i) (c.points-points.ensures.value i)))
