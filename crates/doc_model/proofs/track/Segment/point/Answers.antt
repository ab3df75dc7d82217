use Rattle.std.proofs.Common.{◌≡◌, pos, ◌+ℤ◌, ◌-ℤ◌, ◌*ℤ◌, to_z, of_z, w32, arith, ◌∙◌, ap}
use borrow.Author.Differences.{ints}
use Rattle.geom_core.specs.Areas.{point}
use Rattle.geom_core.specs.Grid.{floor_by}
use Rattle.doc_model.specs.Trails.{distance}
use Rattle.doc_model.specs.Tracks.{point_of}
use Rattle.doc_model.proofs.track.Segment.point.Goals as goal

pub overflow_add-result-2 : goal.overflow_add-result-2
overflow_add-result-2 c = omega (arith, ints)

pub returns : goal.returns
returns c =
    let x : to_z w32 (of_z w32 (to_z w32 (of_z w32 c.from.result) +ℤ to_z w32 (of_z w32 c.share.result))) ≡ c.args.self.now.from.0 +ℤ c.share.result = omega (arith, ints) in
    let y : to_z w32 (of_z w32 (to_z w32 (of_z w32 c.from-2.result) +ℤ to_z w32 (of_z w32 c.share-2.result))) ≡ c.args.self.now.from.1 +ℤ c.share-2.result = omega (arith, ints) in
    let u : to_z w32 (of_z w32 c.way.result) ≡ c.args.self.now.to.0 -ℤ c.args.self.now.from.0 = omega (arith, ints) in
    let v : to_z w32 (of_z w32 c.way-2.result) ≡ c.args.self.now.to.1 -ℤ c.args.self.now.from.1 = omega (arith, ints) in
    let s : c.steps-steps.result ≡ distance (point_of c.args.self.now.from) (point_of c.args.self.now.to) = c.steps-steps.ensures.value in
    let a : c.share.result ≡ floor_by (distance (point_of c.args.self.now.from) (point_of c.args.self.now.to)) ((c.args.self.now.to.0 -ℤ c.args.self.now.from.0) *ℤ pos c.args.n) = c.share.ensures.value ∙ (λ i. floor_by (s i) (u i *ℤ pos c.args.n)) in
    let b : c.share-2.result ≡ floor_by (distance (point_of c.args.self.now.from) (point_of c.args.self.now.to)) ((c.args.self.now.to.1 -ℤ c.args.self.now.from.1) *ℤ pos c.args.n) = c.share-2.ensures.value ∙ (λ i. floor_by (s i) (v i *ℤ pos c.args.n)) in
    λ i. point ((x ∙ ap (λ z. c.args.self.now.from.0 +ℤ z) a) i) ((y ∙ ap (λ z. c.args.self.now.from.1 +ℤ z) b) i)
