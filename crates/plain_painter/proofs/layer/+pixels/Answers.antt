use Rattle.std.proofs.Common.{◌≡◌, ◌≤◌, true, eqb, length, map, sym, ap, subst, ◌∙◌, IfOk, to_z, of_z, w32, arith}
use Rattle.std.proofs.lemmas.Bool.Decides.{nat_tests}
use Rattle.std.proofs.lemmas.List.{length-map}
use borrow.Author.Differences.{ints}
use Rattle.pixel_core.specs.Rgba.{clear}
use Rattle.geom_core.specs.Rects.{any_holds}
use Rattle.std.specs.Prelude.{◌-ℤ◌}
use Rattle.geom_core.specs.Areas.{point, holds, moved, points_of}
use Rattle.geom_core.proofs.Tests.{taken}
use Rattle.doc_model.specs.Layers.{Layer, at}
use Rattle.doc_model.proofs.LayerLaws.{at-plain}
use Rattle.doc_model.specs.Jobs.{mean, square, writes}
use Rattle.plain_painter.specs.Steps.{point_of, layer_after, job_sound}
use Rattle.plain_painter.specs.declared.layer.Deed.TheVariants.{Fresh}
use Rattle.plain_painter.proofs.Layered.{no_steps, layer_own, at_written, at_other, one_holds, few_round}
use Rattle.plain_painter.proofs.Points.{points_length, mapped_all}
use Rattle.plain_painter.proofs.layer.+pixels.Goals as goal

pub pixel_after-returns-in_default : goal.pixel_after-returns-in_default
pixel_after-returns-in_default t c = sym (ap (λ (l : Layer). at l (point_of c.args.spot)) (no_steps c.args.id c.args.steps.now c.in_default.ensures.cases) ∙ at-plain clear (point_of c.args.spot))

pub pixel_after-returns-in-Fresh : goal.pixel_after-returns-in-Fresh
pixel_after-returns-in-Fresh t c =
    let own : eqb c.in-Some.step.now.layer c.args.id ≡ true = grind (arith, nat_tests) in
    sym (at-plain c.in-Fresh.pixel (point_of c.args.spot)) ∙ ap (λ (l : Layer). at l (point_of c.args.spot)) (layer_own c.args.id c.args.steps.now c.in-Some.older.now c.in-Some.step.now (Fresh c.in-Fresh.pixel) c.in-Some.ensures.cases.0 own c.in-Fresh.is)

pub pixel_blurred-mean_of-requires-clause-few : goal.pixel_blurred-mean_of-requires-clause-few
pixel_blurred-mean_of-requires-clause-few t c =
    let all = mapped_all (at (layer_after c.args.id c.args.older.now)) c.deref-spot-items.result.now c.loop-spot.spot-index c.loop-spot.pixels.items (square c.args.spot.x c.args.spot.y c.args.r) c.loop-spot-test.false c.loop-spot.invariant (ap (map point_of) c.deref-spot-items.ensures.value ∙ c.in_ok-spots.ensures) in
    let many = ap length (c.deref.ensures.value ∙ all) ∙ length-map (points_of (square c.args.spot.x c.args.spot.y c.args.r)) (at (layer_after c.args.id c.args.older.now)) ∙ points_length (square c.args.spot.x c.args.spot.y c.args.r) in
    subst (λ n. n ≤ 1089) (sym many) (few_round c.args.rect c.args.r c.requires.job_sound)

pub pixel_blurred-returns : goal.pixel_blurred-returns
pixel_blurred-returns t c =
    let all = mapped_all (at (layer_after c.args.id c.args.older.now)) c.deref-spot-items.result.now c.loop-spot.spot-index c.loop-spot.pixels.items (square c.args.spot.x c.args.spot.y c.args.r) c.loop-spot-test.false c.loop-spot.invariant (ap (map point_of) c.deref-spot-items.ensures.value ∙ c.in_ok-spots.ensures) in
    let many = ap length (c.deref.ensures.value ∙ all) ∙ length-map (points_of (square c.args.spot.x c.args.spot.y c.args.r)) (at (layer_after c.args.id c.args.older.now)) ∙ points_length (square c.args.spot.x c.args.spot.y c.args.r) in
    c.mean_of.ensures ∙ (λ i. mean (many i) ((c.deref.ensures.value ∙ all) i))

pub pixel_moved-returns-then-is_reached : goal.pixel_moved-returns-then-is_reached
pixel_moved-returns-then-is_reached t c =
    let x : to_z w32 (of_z w32 c.args.dx) ≡ c.args.dx = omega (arith, ints) in
    let y : to_z w32 (of_z w32 c.args.dy) ≡ c.args.dy = omega (arith, ints) in
    let held : holds (moved c.args.rect c.args.dx c.args.dy) (point_of c.args.spot) ≡ true = (λ i. holds (moved c.args.rect (sym x i) (sym y i)) (point_of c.args.spot)) ∙ sym c.if-is_reached.ensures in
    subst (λ v. IfOk c.pixel_after.result (λ p. p ≡ v))
    (ap (at (layer_after c.args.id c.args.older.now)) (c.source_of.ensures ∙ (λ i. point (c.args.spot.x -ℤ x i) (c.args.spot.y -ℤ y i))) ∙ sym (taken (holds (moved c.args.rect c.args.dx c.args.dy) (point_of c.args.spot)) _ _ held))
    c.pixel_after.ensures

pub pixel_painted-returns-then-is_written : goal.pixel_painted-returns-then-is_written
pixel_painted-returns-then-is_written t c = subst (λ v. IfOk c.pixel_written.result (λ p. p ≡ v)) (at_written c.args.job.now (layer_after c.args.id c.args.older.now) (point_of c.args.spot) (sym c.if-is_written.ensures)) c.pixel_written.ensures

pub pixel_painted-returns-else-is_written : goal.pixel_painted-returns-else-is_written
pixel_painted-returns-else-is_written t c = subst (λ v. IfOk c.pixel_after.result (λ p. p ≡ v)) (at_other c.args.job.now (layer_after c.args.id c.args.older.now) (point_of c.args.spot) (sym c.if-is_written.ensures)) c.pixel_after.ensures

pub pixel_written-mask_at-requires-clause-held : goal.pixel_written-mask_at-requires-clause-held
pixel_written-mask_at-requires-clause-held t c =
    let x : to_z w32 (of_z w32 c.in-Dab.x) ≡ c.in-Dab.x = omega (arith, ints) in
    let y : to_z w32 (of_z w32 c.in-Dab.y) ≡ c.in-Dab.y = omega (arith, ints) in
    (λ i. holds (square (x i) (y i) c.in-Dab.r) (point_of c.args.spot))
    ∙ one_holds _ (ap (λ j. any_holds (writes j) (point_of c.args.spot)) (sym c.in-Dab.is) ∙ c.requires.written)

pub pixel_written-pixel_blurred-requires : goal.pixel_written-pixel_blurred-requires
pixel_written-pixel_blurred-requires t c = (
  omega (arith, c.decreases),
  (c.requires.sound, (ap job_sound (sym c.in-Blur.is) ∙ c.requires.job_sound, one_holds _ (ap (λ j. any_holds (writes j) (point_of c.args.spot)) (sym c.in-Blur.is) ∙ c.requires.written))),
)
