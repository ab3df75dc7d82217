use Rattle.std.proofs.Common.{rules, arith, ◌≡◌, ◌≢◌, ◌+◌, ◌<◌, [], ◌∷◌, sym, ap, ◌∙◌, take, drop, length, length-drop, refl, inl, inr}
use Rattle.std.specs.Prelude.{IsSome, vec_len, slice_index_or}
use Rattle.history_core.proofs.Steps.{nothing_or, on_some, if_none, more_if_some, many_before, redone_is, nothing_redone, entry_before}
use Rattle.history_core.proofs.UndoStack.redo.Goals as goal

pub returns : goal.returns
returns g c =
    let xs = c.self.inside.entries.items in
    let done = c.self.inside.done in
    let place = c.step_on-place.result in
    let old = c.args.self.now in
    let all : vec_len c.self.inside.entries ≡ length xs = search rules in
    let past = ap (λ s. s.past) c.self.view_is ∙ c.step_on-place.ensures.past in
    let future = ap (λ s. s.future) c.self.view_is ∙ c.step_on-place.ensures.future in
    let spare = ap (λ s. s.spare) c.self.view_is ∙ c.step_on-place.ensures.spare in
    let before = many_before done xs (search rules) in
    let seen = ap (λ s. length s.past) c.self.view_is in
    let on_place : old.future ≢ [] → done ≡ place + 1 = λ some. sym (c.step_on-place.ensures.place some ∙ sym seen ∙ before) in
    let inside : old.future ≢ [] → place < length xs = λ some. omega (arith, on_place some, c.self.invariant, all) in
    let some : IsSome c.get_mut.result → old.future ≢ [] = λ h none.
    let at_end = c.step_on-place.ensures.none none ∙ sym seen ∙ before in
    let rest = ap length (future ∙ ap (drop 1) none) in
    omega (arith, c.get_mut.ensures.variant.0 h, at_end, rest, all, length-drop done xs, c.self.invariant) in
    let is_some : old.future ≢ [] → IsSome c.get_mut.result = λ h. c.get_mut.ensures.variant.1 (omega (arith, inside h, all)) in
    let none : (IsSome c.get_mut.result → ⊥) → old.future ≡ [] = λ h. elim (nothing_or old.future) [ inl e ↦ e | inr e ↦ absurd (h (is_some e)) ] in (
      (refl, (λ w. on_some _ _ (λ h. redone_is xs place done _ w old (on_place (some h)) (inside (some h)) (some h) past future spare)), if_none _ _ (λ h. nothing_redone _ old (none h) past future spare)),
      record {
        lends = tt;
        entry = more_if_some c.get_mut.result (λ r. r.now ≡ slice_index_or xs place r.now) (λ r. take 1 old.future ≡ r.now ∷ []) c.get_mut.ensures.value (λ r h is. entry_before place done xs old.future old.past r.now (on_place (some h)) (inside (some h)) is past (some h));
        some = (some, is_some);
      },
    )
