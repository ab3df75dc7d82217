use Rattle.std.proofs.Common.{◌≡◌, ◌+◌, ◌<◌, ◌&&◌, pos, true, false, length, map, drop, get_or, arith, sym, ap, ◌∙◌}
use Rattle.std.specs.Prelude.{slice_get}
use Rattle.std.specs.List.{list_all}
use Rattle.std.proofs.lemmas.Option.{slice_get-get_or}
use Rattle.doc_model.specs.Tracks.{point_of}
use Rattle.doc_model.proofs.Staying.{stays, all_stay, track_decides, cut_stays}
use Rattle.doc_model.proofs.job.stays_in_world.Goals as goal

pub returns-then-not-point_stays_in_world : goal.returns-then-not-point_stays_in_world
returns-then-not-point_stays_in_world c =
    let inside : c.loop-point.point-index < length c.points-point-items.result.now = omega arith in
    let strays : stays c.stamp-r.result.r (point_of (get_or c.points-point-items.result.now c.loop-point.point-index (pos 0, pos 0))) ≡ false = sym c.if-not-point_stays_in_world.ensures in
    ap (λ b. b && all_stay c.stamp-r.result.r (map point_of (drop (c.loop-point.point-index + 1) c.points-point-items.result.now))) (sym strays)
    ∙ sym (cut_stays c.stamp-r.result.r c.points-point-items.result.now c.loop-point.point-index (get_or c.points-point-items.result.now c.loop-point.point-index (pos 0, pos 0)) (slice_get-get_or c.points-point-items.result.now c.loop-point.point-index (pos 0, pos 0) inside))
    ∙ c.loop-point.invariant
    ∙ (λ j. all_stay (c.stamp-r.ensures.value j).r (c.points-point-items.ensures.value j))
    ∙ track_decides c.args.track.now c.stamp-r.ensures.known.gap.0

pub loop-point-preserved : goal.loop-point-preserved
loop-point-preserved c =
    let inside : c.loop-point.point-index < length c.points-point-items.result.now = omega arith in
    let stay : stays c.stamp-r.result.r (point_of (get_or c.points-point-items.result.now c.loop-point.point-index (pos 0, pos 0))) ≡ true = sym c.if-not-point_stays_in_world.ensures in
    ap (λ b. b && all_stay c.stamp-r.result.r (map point_of (drop (c.loop-point.point-index + 1) c.points-point-items.result.now))) (sym stay)
    ∙ sym (cut_stays c.stamp-r.result.r c.points-point-items.result.now c.loop-point.point-index (get_or c.points-point-items.result.now c.loop-point.point-index (pos 0, pos 0)) (slice_get-get_or c.points-point-items.result.now c.loop-point.point-index (pos 0, pos 0) inside))
    ∙ c.loop-point.invariant

pub returns : goal.returns
returns c =
    let none : drop c.loop-point.point-index c.points-point-items.result.now ≡ Rattle.std.specs.Prelude.[] = Rattle.std.proofs.lemmas.List.drop_all c.loop-point.point-index c.points-point-items.result.now (omega arith) in
    ap (λ ps. all_stay c.stamp-r.result.r (map point_of ps)) (sym none)
    ∙ c.loop-point.invariant
    ∙ (λ j. all_stay (c.stamp-r.ensures.value j).r (c.points-point-items.ensures.value j))
    ∙ track_decides c.args.track.now c.stamp-r.ensures.known.gap.0
