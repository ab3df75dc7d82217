use Rattle.std.proofs.Common.{◌≡◌, arith, subst, to_z, of_z, w16}
use borrow.Author.Differences.{ints}
use Rattle.brush_mask.specs.Chords.{IsHalfChord}
use Rattle.brush_mask.proofs.Chords.{in_order, chord}
use Rattle.brush_mask.proofs.circle.chord_in_row.Goals as goal

pub returns-in-Some-clause-order : goal.returns-in-Some-clause-order
returns-in-Some-clause-order c = in_order c.args.places _ _ _ _ (omega (arith, ints)) c.place_of.ensures.inside c.place_of-in-Some.ensures.inside c.place_of.ensures.value c.place_of-in-Some.ensures.value

pub returns-in-Some-clause-value : goal.returns-in-Some-clause-value
returns-in-Some-clause-value c =
    let down : to_z w16 (of_z w16 c.args.dy) ≡ c.args.dy = omega (arith, ints) in
    chord c.args.r c.in-Some.half c.args.places _ _ c.args.dx c.args.dy _ _ (subst (λ y. IsHalfChord c.args.r y c.in-Some.half) down c.in-Some.ensures.some) (omega (arith, ints)) (omega (arith, ints)) c.place_of.ensures.value c.place_of-in-Some.ensures.value
