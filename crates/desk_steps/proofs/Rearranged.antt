-- Which layers stand in a tree after a change.
use Rattle.std.proofs.Common.{◌≡◌, ℕ, suc, zero, Bool, true, false, ◌||◌, not, cond, Some, None, is_some, Ok, refl, sym, ap, ◌∙◌, subst, arith, eqb, inl, inr}
use Rattle.std.proofs.lemmas.Bool.Decides.{nat_tests}
use Rattle.geom_core.proofs.Tests.{or_left, or_right, same_bools, or_same, or_again}
use Rattle.pixel_core.specs.Rgba.{Rgba}
use Rattle.doc_model.specs.declared.tree.Look.{Look}
use Rattle.doc_model.specs.declared.tree.Change.{Change}
use Rattle.doc_model.specs.declared.tree.Change.TheVariants as change
use Rattle.doc_model.specs.Forest.{Forest, none, paint, group, has, is_group, join, lower, upper, inserted, within, without, only, with_look, content}
use Rattle.doc_model.specs.Changes.{changed, no_new, set_in, takes, new_look}
use Rattle.doc_model.proofs.Parents.{Distinct}
use Rattle.doc_model.proofs.Paths.{or_cases}
use Rattle.doc_model.proofs.Heights.{group_without}
use Rattle.doc_model.proofs.TreeChanges.{answered, new_may, place_may}
use Rattle.doc_model.proofs.TreeLaws.{without_none}
use Rattle.doc_model.proofs.Natural.{sets_in, content_before}
use Rattle.doc_model.proofs.PaintTests.{false-true, or_else_tests}
use Rattle.std.proofs.lemmas.Bool.{not-false}

-- whether a paint node has the id
abbrev drawn : {A : Type 0} → ℕ → Forest A → Bool
drawn q none = false
drawn q (paint id look x rest) = eqb q id || drawn q rest
drawn q (group id look nodes rest) = drawn q nodes || drawn q rest

or_swapped : (a b c : Bool) → (a || (b || c)) ≡ (b || (a || c))
or_swapped true true c = refl
or_swapped true false c = refl
or_swapped false b c = refl

pub drawn_is : {A : Type 0} (q : ℕ) (f : Forest A) → is_some (content q f) ≡ drawn q f
drawn_is q none = refl
drawn_is {A = A} q (paint id look x rest) = go (eqb q id) (drawn_is q rest)
  where
    go : (b : Bool) → is_some (content q rest) ≡ drawn q rest → is_some (cond b (Some x) (content q rest)) ≡ (b || drawn q rest)
    go true e = refl
    go false e = e
drawn_is q (group id look nodes rest) = sym (or_else_tests (content q nodes) (content q rest)) ∙ or_same (drawn_is q nodes) (drawn_is q rest)

-- the id of a node isn't among those after it
own_absent : {A : Type 0} (g id : ℕ) (rest : Forest A) → eqb g id ≡ true → has id rest ≡ false → has g rest ≡ false
own_absent g id rest e absent =
    let same : g ≡ id = grind (arith, nat_tests) in
    ap (λ p. has p rest) same ∙ absent

either_first : {a b c d : Bool} → (a ≡ true → c ≡ true) → (b ≡ true → d ≡ true) → (a || b) ≡ true → (c || d) ≡ true
either_first {a = a} {b = b} {c = c} {d = d} f g h = elim (or_cases a b h) [ inl i ↦ or_left c d (f i) | inr i ↦ or_right c d (g i) ]

module _ {A : Type 0} (q : ℕ) where
  drawn_join : (a b : Forest A) → drawn q (join a b) ≡ (drawn q a || drawn q b)
  drawn_join none b = refl
  drawn_join (paint id look x rest) b = ap (λ r. eqb q id || r) (drawn_join rest b) ∙ or_again (eqb q id) (drawn q rest) (drawn q b)
  drawn_join (group id look nodes rest) b = ap (λ r. drawn q nodes || r) (drawn_join rest b) ∙ or_again (drawn q nodes) (drawn q rest) (drawn q b)

  drawn_halves : (n : ℕ) (f : Forest A) → (drawn q (lower n f) || drawn q (upper n f)) ≡ drawn q f
  drawn_halves zero f = refl
  drawn_halves (suc n) none = refl
  drawn_halves (suc n) (paint id look x rest) = sym (or_again (eqb q id) (drawn q (lower n rest)) (drawn q (upper n rest))) ∙ ap (λ r. eqb q id || r) (drawn_halves n rest)
  drawn_halves (suc n) (group id look nodes rest) = sym (or_again (drawn q nodes) (drawn q (lower n rest)) (drawn q (upper n rest))) ∙ ap (λ r. drawn q nodes || r) (drawn_halves n rest)

  drawn_inserted : (n : ℕ) (nodes f : Forest A) → drawn q (inserted n nodes f) ≡ (drawn q nodes || drawn q f)
  drawn_inserted n nodes f = drawn_join (lower n f) (join nodes (upper n f)) ∙ ap (λ r. drawn q (lower n f) || r) (drawn_join nodes (upper n f))
      ∙ or_swapped (drawn q (lower n f)) (drawn q nodes) (drawn q (upper n f)) ∙ ap (λ r. drawn q nodes || r) (drawn_halves n f)

  drawn_look : (g : ℕ) (new : Look) (f : Forest A) → drawn q (with_look g new f) ≡ drawn q f
  drawn_look g new none = refl
  drawn_look g new (paint id look x rest) = ap (λ r. eqb q id || r) (drawn_look g new rest)
  drawn_look g new (group id look nodes rest) = or_same (drawn_look g new nodes) (drawn_look g new rest)

  drawn_within : (g : ℕ) (change : Forest A → Forest A) → ((x : Forest A) → drawn q x ≡ true → drawn q (change x) ≡ true) → (f : Forest A) → drawn q f ≡ true → drawn q (within g change f) ≡ true
  drawn_within g change more none h = h
  drawn_within g change more (paint id look x rest) h = either_first (λ i. i) (drawn_within g change more rest) h
  drawn_within g change more (group id look nodes rest) h = either_first (go (eqb g id) (drawn_within g change more nodes)) (drawn_within g change more rest) h
    where
      go : (b : Bool) → (drawn q nodes ≡ true → drawn q (within g change nodes) ≡ true) → drawn q nodes ≡ true → drawn q (cond b (change nodes) (within g change nodes)) ≡ true
      go true e i = more nodes i
      go false e i = e i

  drawn_put : (g : ℕ) (change : Forest A → Forest A) → ((x : Forest A) → drawn q (change x) ≡ true) → (f : Forest A) → is_group g f ≡ true → drawn q (within g change f) ≡ true
  drawn_put g change put none h = false-true h
  drawn_put g change put (paint id look x rest) h = or_right (eqb q id) _ (drawn_put g change put rest h)
  drawn_put g change put (group id look nodes rest) h = go (eqb g id) (drawn_put g change put nodes) (drawn_put g change put rest) h
    where
      go : (b : Bool) → (is_group g nodes ≡ true → drawn q (within g change nodes) ≡ true) → (is_group g rest ≡ true → drawn q (within g change rest) ≡ true) → (b || (is_group g nodes || is_group g rest)) ≡ true
          → (drawn q (cond b (change nodes) (within g change nodes)) || drawn q (within g change rest)) ≡ true
      go true m n h = or_left (drawn q (change nodes)) _ (put nodes)
      go false m n h = either_first m n h

  set_in_old : (g place : ℕ) (nodes f : Forest A) → drawn q f ≡ true → drawn q (set_in g place nodes f) ≡ true
  set_in_old g place nodes f h = go (eqb g 0)
    where
      more : (x : Forest A) → drawn q x ≡ true → drawn q (inserted place nodes x) ≡ true
      more x h = drawn_inserted place nodes x ∙ or_right (drawn q nodes) (drawn q x) h

      go : (b : Bool) → drawn q (cond b (inserted place nodes f) (within g (inserted place nodes) f)) ≡ true
      go true = more f h
      go false = drawn_within g (inserted place nodes) more f h

  set_in_new : (g place : ℕ) (nodes f : Forest A) → takes g f ≡ true → drawn q nodes ≡ true → drawn q (set_in g place nodes f) ≡ true
  set_in_new g place nodes f into h = go (eqb g 0) into
    where
      put : (x : Forest A) → drawn q (inserted place nodes x) ≡ true
      put x = drawn_inserted place nodes x ∙ or_left (drawn q nodes) (drawn q x) h

      go : (b : Bool) → (b || is_group g f) ≡ true → drawn q (cond b (inserted place nodes f) (within g (inserted place nodes) f)) ≡ true
      go true e = put f
      go false e = drawn_put g (inserted place nodes) put f e

  outside : (g : ℕ) (rest : Forest A) → has g rest ≡ false → drawn q rest ≡ true → drawn q (without g rest) ≡ true
  outside g rest absent h = ap (drawn q) (without_none g rest absent) ∙ h

  -- what stands in a forest of distinct ids is in a node or without it
  drawn_parts : (g : ℕ) (f : Forest A) → Distinct f → drawn q f ≡ true → (drawn q (only g f) || drawn q (without g f)) ≡ true
  drawn_parts g none d h = h
  drawn_parts g (paint id look x rest) d h = go (eqb g id) refl (drawn_parts g rest d.1)
    where
      go : (b : Bool) → eqb g id ≡ b → (drawn q rest ≡ true → (drawn q (only g rest) || drawn q (without g rest)) ≡ true)
          → (drawn q (cond b (paint id look x none) (only g rest)) || drawn q (cond b (without g rest) (paint id look x (without g rest)))) ≡ true
      go true e more = elim (or_cases (eqb q id) (drawn q rest) h) [
        | inl i ↦ or_left (eqb q id || false) _ (or_left (eqb q id) false i)
        | inr i ↦ or_right (eqb q id || false) _ (outside g rest (own_absent g id rest e d.0) i)
      ]
      go false e more = or_swapped (drawn q (only g rest)) (eqb q id) (drawn q (without g rest)) ∙ either_first (λ i. i) more h
  drawn_parts g (group id look nodes rest) d h = go (eqb g id) refl (drawn_parts g nodes d.3) (drawn_parts g rest d.4)
    where
      mixed : (a b c e : Bool) → ((a || c) || (b || e)) ≡ ((a || b) || (c || e))
      mixed true b c e = refl
      mixed false b true e = sym (or_right b true refl) ∙ mixed_true b e
        where
          mixed_true : (b e : Bool) → (b || true) ≡ (b || true)
          mixed_true b e = refl
      mixed false b false e = refl

      go : (b : Bool) → eqb g id ≡ b → (drawn q nodes ≡ true → (drawn q (only g nodes) || drawn q (without g nodes)) ≡ true) → (drawn q rest ≡ true → (drawn q (only g rest) || drawn q (without g rest)) ≡ true)
          → (drawn q (cond b (group id look nodes none) (join (only g nodes) (only g rest))) || drawn q (cond b (without g rest) (group id look (without g nodes) (without g rest)))) ≡ true
      go true e m n = elim (or_cases (drawn q nodes) (drawn q rest) h) [
        | inl i ↦ or_left (drawn q nodes || false) _ (or_left (drawn q nodes) false i)
        | inr i ↦ or_right (drawn q nodes || false) _ (outside g rest (own_absent g id rest e d.1) i)
      ]
      go false e m n = ap (λ b. b || (drawn q (without g nodes) || drawn q (without g rest))) (drawn_join (only g nodes) (only g rest))
          ∙ sym (mixed (drawn q (only g nodes)) (drawn q (only g rest)) (drawn q (without g nodes)) (drawn q (without g rest))) ∙ either_first m n h

  drawn_placed : (id above place : ℕ) (f : Forest A) → Distinct f → takes above f ≡ true → has above (only id f) ≡ false → drawn q f ≡ true → drawn q (set_in above place (only id f) (without id f)) ≡ true
  drawn_placed id above place f d into apart h = elim (or_cases (drawn q (only id f)) (drawn q (without id f)) (drawn_parts id f d h)) [
    | inl i ↦ set_in_new above place (only id f) (without id f) (ap (λ b. eqb above 0 || b) (group_without id above f d apart) ∙ into) i
    | inr i ↦ set_in_old above place (only id f) (without id f) i
  ]

-- whether a change takes no layer away
abbrev pub keeps_layers : Change → Bool
keeps_layers (change.Layer id above place pixel) = true
keeps_layers (change.Group id above place) = true
keeps_layers (change.Remove id) = false
keeps_layers (change.Place id above place) = true
keeps_layers (change.Look id look) = true

drawn_stays : {A : Type 0} (fresh : Rgba → A) (c : Change) (f new : Forest A) (q : ℕ) → keeps_layers c ≡ true → changed fresh c f ≡ Ok new → Distinct f → drawn q f ≡ true → drawn q new ≡ true
drawn_stays fresh (change.Layer id above place pixel) f new q k e d h = subst (λ n. drawn q n ≡ true) (answered _ _ _ e).1 (set_in_old q above place (paint id new_look (fresh pixel) none) f h)
drawn_stays fresh (change.Group id above place) f new q k e d h = subst (λ n. drawn q n ≡ true) (answered _ _ _ e).1 (set_in_old q above place (group id new_look none none) f h)
drawn_stays fresh (change.Remove id) f new q k e d h = false-true k
drawn_stays fresh (change.Place id above place) f new q k e d h =
    let a : (_ ≡ None) × (set_in above place (only id f) (without id f) ≡ new) = answered _ _ _ e in
    let may = place_may id above place f a.0 in
    subst (λ n. drawn q n ≡ true) a.1 (drawn_placed q id above place f d (not-false (takes above f) may.2) may.3 h)
drawn_stays fresh (change.Look id look) f new q k e d h = subst (λ n. drawn q n ≡ true) (answered _ _ _ e).1 (drawn_look q id look f ∙ h)

-- and those that it doesn't set in are the same
pub layers_stay : {A : Type 0} (fresh : Rgba → A) (c : Change) (f new : Forest A) (q : ℕ) → keeps_layers c ≡ true → sets_in c q ≡ false → changed fresh c f ≡ Ok new → Distinct f → is_some (content q new) ≡ is_some (content q f)
layers_stay fresh c f new q k other e d = same_bools (is_some (content q new)) (is_some (content q f))
    (content_before fresh c f new q e other)
    (λ h. drawn_is q new ∙ drawn_stays fresh c f new q k e d (sym (drawn_is q f) ∙ h))

-- a new layer is there
pub layer_comes : {A : Type 0} (fresh : Rgba → A) (id above place : ℕ) (pixel : Rgba) (f new : Forest A) → changed fresh (change.Layer id above place pixel) f ≡ Ok new → is_some (content id new) ≡ true
layer_comes fresh id above place pixel f new e =
    let a : (no_new id above place f ≡ None) × (set_in above place (paint id new_look (fresh pixel) none) f ≡ new) = answered _ _ _ e in
    drawn_is id new ∙ subst (λ n. drawn id n ≡ true) a.1 (set_in_new id above place (paint id new_look (fresh pixel) none) f (not-false (takes above f) (new_may id above place f a.0).2) (or_left (eqb id id) false (own id)))
  where
    own : (q : ℕ) → eqb q q ≡ true
    own q = grind (arith, nat_tests)
