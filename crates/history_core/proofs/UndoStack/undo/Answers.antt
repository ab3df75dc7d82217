use Rattle.std.proofs.Common.{rules, arith, ◌≡◌, ◌≢◌, ◌+◌, ◌<◌, [], ◌∷◌, sym, ap, ◌∙◌, take, length, length-drop, refl, inl, inr}
use Rattle.std.specs.Prelude.{IsSome, vec_len, slice_index_or}
use Rattle.history_core.proofs.Steps.{nothing_or, on_some, if_none, more_if_some, many_before, undone_is, nothing_undone, entry_behind, some_behind}
use Rattle.history_core.proofs.UndoStack.undo.Goals as goal

pub returns : goal.returns
returns g c =
    let xs = c.self.inside.entries.items in
    let done = c.self.inside.done in
    let place = c.step_back-place.result in
    let old = c.args.self.now in
    let all : vec_len c.self.inside.entries ≡ length xs = search rules in
    let past = ap (λ s. s.past) c.self.view_is ∙ c.step_back-place.ensures.past in
    let future = ap (λ s. s.future) c.self.view_is ∙ c.step_back-place.ensures.future in
    let spare = ap (λ s. s.spare) c.self.view_is ∙ c.step_back-place.ensures.spare in
    let before = many_before done xs (search rules) in
    let at_done : old.past ≢ [] → place ≡ done = λ some. c.step_back-place.ensures.place some ∙ sym (ap (λ s. length s.past) c.self.view_is) ∙ before in
    let inside : old.past ≢ [] → done < length xs = λ some. some_behind done xs old.past old.future future some in
    let some : IsSome c.get_mut.result → old.past ≢ [] = λ h none.
    let at_end = c.step_back-place.ensures.none none ∙ sym (ap (λ s. length s.past + length s.future) c.self.view_is) in
    omega (arith, c.get_mut.ensures.variant.0 h, at_end, before, all, length-drop done xs, c.self.invariant) in
    let is_some : old.past ≢ [] → IsSome c.get_mut.result = λ h. c.get_mut.ensures.variant.1 (omega (arith, at_done h, inside h, all)) in
    let none : (IsSome c.get_mut.result → ⊥) → old.past ≡ [] = λ h. elim (nothing_or old.past) [ inl e ↦ e | inr e ↦ absurd (h (is_some e)) ] in (
      (refl, (λ w. on_some _ _ (λ h. undone_is xs done place _ w old (at_done (some h)) (inside (some h)) (some h) past future spare)), if_none _ _ (λ h. nothing_undone _ old (none h) past future spare)),
      record {
        lends = tt;
        entry = more_if_some c.get_mut.result (λ r. r.now ≡ slice_index_or xs place r.now) (λ r. take 1 old.past ≡ r.now ∷ []) c.get_mut.ensures.value (λ r h is. entry_behind done xs old.past old.future r.now (inside (some h)) (is ∙ ap (λ k. slice_index_or xs k r.now) (at_done (some h))) future (some h));
        some = (some, is_some);
      },
    )
