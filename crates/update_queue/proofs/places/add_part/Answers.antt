use Rattle.std.proofs.Common.{◌≡◌, ◌==◌, true, false, None, Some, length, ap, sym, ◌∙◌, arith, refl}
use Rattle.std.specs.List.{position}
use Rattle.std.proofs.lemmas.Bool.Decides.{nat_tests}
use Rattle.std.specs.Prelude.{slice_get, slice_set}
use Rattle.geom_core.specs.Overlaps.{bound}
use Rattle.doc_model.specs.declared.canvas.Patch.{Patch}
use Rattle.doc_model.specs.Updates.{has_place, patch, merged}
use Rattle.update_queue.proofs.Elements.{position_any, position_none, position-Some, position-None, refilled}
use Rattle.update_queue.proofs.Joining.{fits, widened_is}
use Rattle.update_queue.proofs.places.add_part.Goals as goal
use Rattle.geom_core.proofs.Tests.{length_map}

pub returns-then-is_full-clause-merged : goal.returns-then-is_full-clause-merged
returns-then-is_full-clause-merged c =
    let lost : position (fits c.args.walk c.args.part.now) c.args.patches.now.items ≡ None = ap (position (fits c.args.walk c.args.part.now)) (sym c.as_slice.ensures.value) ∙ sym c.place_of.ensures ∙ c.in-None.is in
    let none : has_place c.args.walk c.args.part.now c.args.patches.now.items ≡ false = position_none (fits c.args.walk c.args.part.now) c.args.patches.now.items (position-None _ _ lost) in
    λ h. cc

pub returns-then-is_full-clause-full : goal.returns-then-is_full-clause-full
returns-then-is_full-clause-full c =
    let lost : position (fits c.args.walk c.args.part.now) c.args.patches.now.items ≡ None = ap (position (fits c.args.walk c.args.part.now)) (sym c.as_slice.ensures.value) ∙ sym c.place_of.ensures ∙ c.in-None.is in
    let full : (length c.args.patches.now.items == 64) ≡ true = sym c.is_full.ensures.value ∙ c.if-is_full.true in
    (position_none (fits c.args.walk c.args.part.now) c.args.patches.now.items (position-None _ _ lost), grind (arith, nat_tests, full), refl)

pub returns-in-Some-clause-merged : goal.returns-in-Some-clause-merged
returns-in-Some-clause-merged c =
    let found : position (fits c.args.walk c.args.part.now) c.args.patches.now.items ≡ Some c.in-Some.i = ap (position (fits c.args.walk c.args.part.now)) (sym c.as_slice.ensures.value) ∙ sym c.place_of.ensures ∙ c.in-Some.is in
    let is = widened_is c.args.walk c.args.part.now c.args.patches.now.items c.grow.new.patches c.in-Some.i c.requires.unlike found
    (λ (p : Patch) (e : slice_get c.args.patches.now.items c.in-Some.i ≡ Some p). c.grow.ensures p (ap (λ xs. slice_get xs c.in-Some.i) c.as_mut_slice.ensures.value ∙ e) ∙ ap (λ xs. slice_set xs c.in-Some.i (patch p.walk (bound p.rect c.args.part.now))) c.as_mut_slice.ensures.value) in
    λ h. refilled c.args.patches.now.items c.grow.new.patches (ap length is ∙ length_map (merged c.args.walk c.args.part.now) c.args.patches.now.items) ∙ is

pub returns-in-Some-clause-placed : goal.returns-in-Some-clause-placed
returns-in-Some-clause-placed c =
    let found : position (fits c.args.walk c.args.part.now) c.args.patches.now.items ≡ Some c.in-Some.i = ap (position (fits c.args.walk c.args.part.now)) (sym c.as_slice.ensures.value) ∙ sym c.place_of.ensures ∙ c.in-Some.is in
    let some : has_place c.args.walk c.args.part.now c.args.patches.now.items ≡ true = position_any (fits c.args.walk c.args.part.now) c.args.patches.now.items (position-Some _ _ _ found).1 in
    λ h. cc

pub returns-else-is_full-clause-merged : goal.returns-else-is_full-clause-merged
returns-else-is_full-clause-merged c =
    let lost : position (fits c.args.walk c.args.part.now) c.args.patches.now.items ≡ None = ap (position (fits c.args.walk c.args.part.now)) (sym c.as_slice.ensures.value) ∙ sym c.place_of.ensures ∙ c.in-None.is in
    let none : has_place c.args.walk c.args.part.now c.args.patches.now.items ≡ false = position_none (fits c.args.walk c.args.part.now) c.args.patches.now.items (position-None _ _ lost) in
    λ h. cc
