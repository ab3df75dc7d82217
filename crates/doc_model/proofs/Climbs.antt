-- The way from a node up to the root.
use Rattle.std.proofs.Common.{◌≡◌, ℕ, Bool, true, false, ◌||◌, cond, [], ◌∷◌, ◌++◌, Some, refl, sym, ap, ◌∙◌, arith, eqb, inl, inr, ◌⊎◌}
use Rattle.std.proofs.lemmas.Bool.Decides.{nat_tests}
use Rattle.geom_core.proofs.Tests.{taken, kept, or_left, or_right, none_left, none_right, equal_test}
use Rattle.doc_model.specs.Forest.{Forest, none, paint, group, has}
use Rattle.doc_model.specs.Readers.{parent, path}
use Rattle.doc_model.proofs.Parents.{Distinct}
use Rattle.doc_model.proofs.Paths.{other_than, not_both}
use Rattle.std.proofs.lemmas.Bool.{eqb-true}

-- no path leads to what isn't there
pub path_absent : {A : Type 0} (q : ℕ) (f : Forest A) → has q f ≡ false → path q f ≡ []
path_absent q none e = refl
path_absent q (paint id look x rest) e = kept (eqb q id) _ _ (none_left (eqb q id) _ e) ∙ path_absent q rest (none_right (eqb q id) _ e)
path_absent q (group id look nodes rest) e =
    let more : (has q nodes || has q rest) ≡ false = none_right (eqb q id) _ e in
    kept (eqb q id) _ _ (none_left (eqb q id) _ e) ∙ kept (has q nodes) _ _ (none_left (has q nodes) _ more) ∙ path_absent q rest (none_right (has q nodes) _ more)

-- a parent is the group round all, or is there
pub parent_in : {A : Type 0} (q above a : ℕ) (f : Forest A) → parent q above f ≡ Some a → (a ≡ above) ⊎ (has a f ≡ true)
parent_in q above a none e = cc
parent_in q above a (paint id look x rest) e = go (eqb q id) (λ h. parent_in q above a rest h) e
  where
    go : (b : Bool) → (parent q above rest ≡ Some a → (a ≡ above) ⊎ (has a rest ≡ true)) → cond b (Some above) (parent q above rest) ≡ Some a → (a ≡ above) ⊎ ((eqb a id || has a rest) ≡ true)
    go true r e = inl (let s : above ≡ a = cc in sym s)
    go false r e = elim (r e) [ inl h ↦ inl h | inr h ↦ inr (or_right (eqb a id) _ h) ]
parent_in q above a (group id look nodes rest) e = go (eqb q id) (has q nodes) (λ h. parent_in q id a nodes h) (λ h. parent_in q above a rest h) e
  where
    go : (b t : Bool) → (parent q id nodes ≡ Some a → (a ≡ id) ⊎ (has a nodes ≡ true)) → (parent q above rest ≡ Some a → (a ≡ above) ⊎ (has a rest ≡ true))
        → cond b (Some above) (cond t (parent q id nodes) (parent q above rest)) ≡ Some a → (a ≡ above) ⊎ ((eqb a id || (has a nodes || has a rest)) ≡ true)
    go true t m r e = inl (let s : above ≡ a = cc in sym s)
    go false true m r e = elim (m e) [ inl h ↦ inr (or_left (eqb a id) _ (let s : a ≡ id = h in grind (arith, nat_tests))) | inr h ↦ inr (or_right (eqb a id) _ (or_left (has a nodes) _ h)) ]
    go false false m r e = elim (r e) [ inl h ↦ inl h | inr h ↦ inr (or_right (eqb a id) _ (or_right (has a nodes) _ h)) ]

-- a node's path goes on with its parent's
pub climbs : {A : Type 0} (q above a : ℕ) (f : Forest A) → Distinct f → has above f ≡ false → parent q above f ≡ Some a → path q f ≡ q ∷ path a f
climbs q above a none d away e = cc
climbs q above a (paint id look x rest) d away e = go (λ h. climbs q above a rest d.1 (none_right (eqb above id) _ away) h) (eqb q id) refl e
  where
    go : (parent q above rest ≡ Some a → path q rest ≡ q ∷ path a rest) → (b : Bool) → eqb q id ≡ b → cond b (Some above) (parent q above rest) ≡ Some a → cond b (id ∷ []) (path q rest) ≡ q ∷ cond (eqb a id) (id ∷ []) (path a rest)
    go r true h e =
        let s : a ≡ above = (let t : above ≡ a = cc in sym t) in
        let n : path a (paint id look x rest) ≡ [] = path_absent a (paint id look x rest) (ap (λ m. has m (paint id look x rest)) s ∙ away) in
        (λ i. sym (eqb-true q id h) i ∷ []) ∙ ap (λ t. q ∷ t) (sym n)
    go r false h e = r e ∙ ap (λ t. q ∷ t) (sym (elsewhere (parent_in q above a rest e)))
      where
        elsewhere : (a ≡ above) ⊎ (has a rest ≡ true) → cond (eqb a id) (id ∷ []) (path a rest) ≡ path a rest
        elsewhere (inl s) = kept (eqb a id) _ _ (ap (λ m. eqb m id) s ∙ none_left (eqb above id) _ away)
        elsewhere (inr t) = kept (eqb a id) _ _ (other_than a id rest d.0 t)
climbs q above a (group id look nodes rest) d away e = go (λ h. climbs q id a nodes d.3 d.0 h) (λ h. climbs q above a rest d.4 (none_right (has above nodes) _ more) h) (eqb q id) refl (has q nodes) refl e
  where
    more : (has above nodes || has above rest) ≡ false
    more = none_right (eqb above id) _ away

    go : (parent q id nodes ≡ Some a → path q nodes ≡ q ∷ path a nodes) → (parent q above rest ≡ Some a → path q rest ≡ q ∷ path a rest) → (b : Bool) → eqb q id ≡ b → (t : Bool) → has q nodes ≡ t → cond b (Some above) (cond t (parent q id nodes) (parent q above rest)) ≡ Some a
        → cond b (id ∷ []) (cond t (path q nodes ++ id ∷ []) (path q rest)) ≡ q ∷ cond (eqb a id) (id ∷ []) (cond (has a nodes) (path a nodes ++ id ∷ []) (path a rest))
    go m r true h t i e =
        let s : a ≡ above = (let t : above ≡ a = cc in sym t) in
        let n : path a (group id look nodes rest) ≡ [] = path_absent a (group id look nodes rest) (ap (λ m. has m (group id look nodes rest)) s ∙ away) in
        (λ j. sym (eqb-true q id h) j ∷ []) ∙ ap (λ t. q ∷ t) (sym n)
    go m r false h true i e = ap (λ t. t ++ id ∷ []) (m e) ∙ ap (λ t. q ∷ t) (inside (parent_in q id a nodes e))
      where
        inside : (a ≡ id) ⊎ (has a nodes ≡ true) → path a nodes ++ id ∷ [] ≡ cond (eqb a id) (id ∷ []) (cond (has a nodes) (path a nodes ++ id ∷ []) (path a rest))
        inside (inl s) = ap (λ t. t ++ id ∷ []) (path_absent a nodes (ap (λ m. has m nodes) s ∙ d.0)) ∙ sym (taken (eqb a id) _ _ (ap (λ m. eqb m id) s ∙ equal_test id))
        inside (inr t) = sym (kept (eqb a id) _ _ (other_than a id nodes d.0 t) ∙ taken (has a nodes) _ _ t)
    go m r false h false i e = r e ∙ ap (λ t. q ∷ t) (sym (elsewhere (parent_in q above a rest e)))
      where
        elsewhere : (a ≡ above) ⊎ (has a rest ≡ true) → cond (eqb a id) (id ∷ []) (cond (has a nodes) (path a nodes ++ id ∷ []) (path a rest)) ≡ path a rest
        elsewhere (inl s) = kept (eqb a id) _ _ (ap (λ m. eqb m id) s ∙ none_left (eqb above id) _ away) ∙ kept (has a nodes) _ _ (ap (λ m. has m nodes) s ∙ none_left (has above nodes) _ more)
        elsewhere (inr t) = kept (eqb a id) _ _ (other_than a id rest d.1 t) ∙ kept (has a nodes) _ _ (not_both a nodes rest d.2 t)
