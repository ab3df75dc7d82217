use Rattle.std.proofs.Common.{◌≡◌, ◌≤◌, ◌<◌, ℕ, suc, ◌+◌, ◌-◌, ◌*◌, length, drop, map, Some, arith, sym, ap, ◌∙◌}
use Rattle.std.specs.Prelude.{slice_get}
use Rattle.geom_core.specs.Areas.{Point}
use Rattle.doc_model.specs.Trails.{along, centres, centres_along}
use Rattle.doc_model.specs.Tracks.{point_of}
use Rattle.doc_model.proofs.Centres.{chain, length-cut_next, get-cut_front, get-cut_back}
use Rattle.doc_model.proofs.track.track_dab.Goals as goal

pub returns-then-left-count : goal.returns-then-left-count
returns-then-left-count c =
    let inside : c.loop-k.left < Rattle.doc_model.specs.Trails.how_many_on c.gap-gap.result (point_of c.segment_at-segment.result.from) (point_of c.segment_at-segment.result.to) = Rattle.std.proofs.Common.subst (λ n. c.loop-k.left < n) c.dab_count-count.ensures.value (omega arith) in
    ap (λ (p : Point). Some p) c.point.ensures
    ∙ ap (λ g. Some (along (point_of c.segment_at-segment.result.from) (point_of c.segment_at-segment.result.to) (c.loop-k.left * g))) c.from.ensures
    ∙ sym (get-cut_front c.gap-gap.result c.points-points.result.now c.loop-k.k c.loop-k.left c.segment_at-segment.result.from c.segment_at-segment.result.to c.segment_at-segment.ensures.from c.segment_at-segment.ensures.to inside)
    ∙ c.loop-k.invariant.same
    ∙ (λ j. slice_get (centres_along (c.gap-gap.ensures.value j) (c.points-points.ensures.value j)) c.args.i)

pub loop-k-preserved : goal.loop-k-preserved
loop-k-preserved c =
    let e : length (chain c.gap-gap.result (drop c.loop-k.k c.points-points.result.now)) ≡ c.dab_count-count.result + length (chain c.gap-gap.result (drop (c.loop-k.k + 1) c.points-points.result.now)) =
    length-cut_next c.gap-gap.result c.points-points.result.now c.loop-k.k c.segment_at-segment.result.from c.segment_at-segment.result.to c.segment_at-segment.ensures.from c.segment_at-segment.ensures.to
    ∙ ap (λ n. n + length (chain c.gap-gap.result (drop (c.loop-k.k + 1) c.points-points.result.now))) (sym c.dab_count-count.ensures.value) in
    record {
      same = sym (get-cut_back c.gap-gap.result c.points-points.result.now c.loop-k.k c.loop-k.left c.dab_count-count.result c.segment_at-segment.result.from c.segment_at-segment.result.to c.segment_at-segment.ensures.from c.segment_at-segment.ensures.to c.dab_count-count.ensures.value (omega arith)) ∙ c.loop-k.invariant.same;
      inside = omega (arith, c.loop-k.invariant.inside);
    }
