use Rattle.std.proofs.Common.{◌≡◌, ◌*◌, ◌≤◌, true, false, [], ◌∷◌, arith, inl, inr, sym, ap, ◌∙◌, subst, to_z, of_z, w32}
use Rattle.geom_core.specs.Areas.{Point, point, meets, lies_in, world}
use Rattle.doc_model.specs.Trails.{along, how_many_on, on_segment}
use Rattle.doc_model.specs.Tracks.{point_of}
use Rattle.doc_model.specs.Jobs.{square}
use borrow.Author.Differences.{ints}
use Rattle.std.proofs.Math.Nat.{mul-le-mul}
use Rattle.job_core.specs.Tracks.{LaysStamps}
use Rattle.job_core.proofs.Tracked.{places_begin, places_next, places_end, place_inside}
use Rattle.job_core.proofs.tracks.lay_segment.Goals as goal

pub overflow_mul-k : goal.overflow_mul-k
overflow_mul-k c = let m : c.loop-k.k * c.from.result ≤ 65535 * 255 = mul-le-mul {n₁ = c.loop-k.k} {m₁ = c.from.result} {n₂ = 65535} {m₂ = 255} (omega (arith, c.near_dabs-span.ensures.few)) (omega (arith, c.from.ensures)) in omega arith

pub lay_stamp-requires-clause-inside : goal.lay_stamp-requires-clause-inside
unfolding on_segment
lay_stamp-requires-clause-inside c =
    let x : to_z w32 (of_z w32 c.point-x.result.0) ≡ c.point-x.result.0 = omega (arith, ints) in
    let y : to_z w32 (of_z w32 c.point-x.result.1) ≡ c.point-x.result.1 = omega (arith, ints) in
    subst (λ (q : Point). lies_in (square q.x q.y c.args.stamp.now.r) world ≡ true)
    (sym ((λ i. point (x i) (y i)) ∙ c.point-x.ensures ∙ ap (λ g. along (point_of c.args.segment.now.from) (point_of c.args.segment.now.to) (c.loop-k.k * g)) c.from.ensures))
    (place_inside c.args.stamp.now (λ j. along (point_of c.args.segment.now.from) (point_of c.args.segment.now.to) (j * c.args.gap)) 0 (how_many_on c.args.gap (point_of c.args.segment.now.from) (point_of c.args.segment.now.to)) c.loop-k.k c.requires.inside (omega arith) (omega (arith, c.near_dabs-span.ensures.near.inside)))

pub loop-k-preserved : goal.loop-k-preserved
loop-k-preserved c =
    let x : to_z w32 (of_z w32 c.point-x.result.0) ≡ c.point-x.result.0 = omega (arith, ints) in
    let y : to_z w32 (of_z w32 c.point-x.result.1) ≡ c.point-x.result.1 = omega (arith, ints) in
    places_next c.args.key c.args.stamp.now (λ j. along (point_of c.args.segment.now.from) (point_of c.args.segment.now.to) (j * c.args.gap)) (how_many_on c.args.gap (point_of c.args.segment.now.from) (point_of c.args.segment.now.to)) c.loop-k.k c.args.tile.now c.loop-k.tile c.lay_stamp.new.tile (omega (arith, c.near_dabs-span.ensures.near.inside)) c.loop-k.invariant
    (subst (λ (q : Point). LaysStamps c.args.key c.args.stamp.now (q ∷ []) c.loop-k.tile c.lay_stamp.new.tile)
    ((λ i. point (x i) (y i)) ∙ c.point-x.ensures ∙ ap (λ g. along (point_of c.args.segment.now.from) (point_of c.args.segment.now.to) (c.loop-k.k * g)) c.from.ensures) c.lay_stamp.ensures)

pub loop-k-init : goal.loop-k-init
loop-k-init c = places_begin c.args.key c.args.stamp.now (λ j. along (point_of c.args.segment.now.from) (point_of c.args.segment.now.to) (j * c.args.gap)) (how_many_on c.args.gap (point_of c.args.segment.now.from) (point_of c.args.segment.now.to)) c.near_dabs-span.result.first c.args.tile.now (omega (arith, c.near_dabs-span.ensures.near.order, c.near_dabs-span.ensures.near.inside))
    (λ j m l. subst (λ b. meets (square (along (point_of c.args.segment.now.from) (point_of c.args.segment.now.to) (j * c.args.gap)).x (along (point_of c.args.segment.now.from) (point_of c.args.segment.now.to) (j * c.args.gap)).y c.args.stamp.now.r) b ≡ false) c.rect.ensures (c.near_dabs-span.ensures.near.apart j m (inl l)))

pub returns : goal.returns
unfolding on_segment
returns c = places_end c.args.key c.args.stamp.now (λ j. along (point_of c.args.segment.now.from) (point_of c.args.segment.now.to) (j * c.args.gap)) (how_many_on c.args.gap (point_of c.args.segment.now.from) (point_of c.args.segment.now.to)) c.loop-k.k c.args.tile.now c.loop-k.tile (omega (arith, c.near_dabs-span.ensures.near.order, c.near_dabs-span.ensures.near.inside))
    (λ j m l. subst (λ b. meets (square (along (point_of c.args.segment.now.from) (point_of c.args.segment.now.to) (j * c.args.gap)).x (along (point_of c.args.segment.now.from) (point_of c.args.segment.now.to) (j * c.args.gap)).y c.args.stamp.now.r) b ≡ false) c.rect.ensures (c.near_dabs-span.ensures.near.apart j m (inr (omega arith))))
    c.loop-k.invariant
