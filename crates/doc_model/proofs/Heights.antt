-- Documents that changes reach are at most 16 levels high.
use Rattle.std.proofs.Common.{◌≡◌, ℕ, suc, zero, ◌+◌, ◌≤◌, Bool, true, false, ◌||◌, not, cond, None, Ok, refl, sym, ap, ◌∙◌, arith, eqb, ltb, subst, inl, inr}
use Rattle.std.specs.Prelude.{max}
use Rattle.std.proofs.lemmas.Bool.Decides.{nat_tests}
use Rattle.geom_core.proofs.Tests.{none_left, none_right, taken, kept, or_cases}
use Rattle.pixel_core.specs.Rgba.{Rgba}
use Rattle.doc_model.specs.declared.tree.Look.{Look}
use Rattle.doc_model.specs.declared.tree.Change.{Change}
use Rattle.doc_model.specs.declared.tree.Change.TheVariants as change
use Rattle.doc_model.specs.Forest.{Forest, none, paint, group, has, height, depth, is_group, join, lower, upper, inserted, within, without, only, with_look}
use Rattle.doc_model.specs.Changes.{changed, no_new, no_place, no_node, takes, set_in, new_look}
use Rattle.doc_model.proofs.Parents.{Distinct}
use Rattle.doc_model.proofs.Weights.{IsTree, within_absent, tree_distinct}
use Rattle.doc_model.proofs.TreeLaws.{without_none}
use Rattle.doc_model.proofs.TreeChanges.{answered, new_may, place_may, tree_without}
use Rattle.doc_model.proofs.Paths.{group_has, other_than}
use Rattle.std.proofs.lemmas.Bool.{not-false}

height_join : {A : Type 0} (a b : Forest A) → height (join a b) ≡ max (height a) (height b)
height_join none b = omega arith
height_join (paint id look x rest) b = let h : height (join rest b) ≡ max (height rest) (height b) = height_join rest b in omega arith
height_join (group id look nodes rest) b = let h : height (join rest b) ≡ max (height rest) (height b) = height_join rest b in omega arith

height_split : {A : Type 0} (n : ℕ) (f : Forest A) → max (height (lower n f)) (height (upper n f)) ≡ height f
height_split zero f = omega arith
height_split (suc n) none = omega arith
height_split (suc n) (paint id look x rest) = let h : max (height (lower n rest)) (height (upper n rest)) ≡ height rest = height_split n rest in omega arith
height_split (suc n) (group id look nodes rest) = let h : max (height (lower n rest)) (height (upper n rest)) ≡ height rest = height_split n rest in omega arith

height_inserted : {A : Type 0} (n : ℕ) (nodes f : Forest A) → height (inserted n nodes f) ≡ max (height nodes) (height f)
height_inserted n nodes f =
    let a : height (join (lower n f) (join nodes (upper n f))) ≡ max (height (lower n f)) (height (join nodes (upper n f))) = height_join (lower n f) (join nodes (upper n f)) in
    let b : height (join nodes (upper n f)) ≡ max (height nodes) (height (upper n f)) = height_join nodes (upper n f) in
    let c : max (height (lower n f)) (height (upper n f)) ≡ height f = height_split n f in
    omega arith

-- the numbers of the step
here_le : (h r k n : ℕ) → max (suc (max k h)) r ≤ max (max (suc h) r) (1 + k)
here_le h r k n = omega arith

inside_le : (h h' r d k : ℕ) → h' ≤ max h (d + k) → max (suc h') r ≤ max (max (suc h) r) (suc d + k)
inside_le h h' r d k e = omega arith

beside_le : (h r r' d k : ℕ) → r' ≤ max r (d + k) → max h r' ≤ max (max h r) (d + k)
beside_le h r r' d k e = omega arith

height_within : {A : Type 0} (g place : ℕ) (new f : Forest A) → Distinct f → is_group g f ≡ true → height (within g (inserted place new) f) ≤ max (height f) (depth g f + height new)
height_within g place new none d h = absurd (let t : false ≡ true = h in cc)
height_within g place new (paint id look x rest) d h =
    let skip : eqb g id ≡ false = other_than g id rest d.0 (group_has g rest h) in
    subst (λ n. max 1 (height (within g (inserted place new) rest)) ≤ max (max 1 (height rest)) (n + height new)) (sym (kept (eqb g id) 1 (depth g rest) skip))
    (beside_le 1 (height rest) (height (within g (inserted place new) rest)) (depth g rest) (height new) (height_within g place new rest d.1 h))
height_within {A = A} g place new (group id look nodes rest) d h = go (λ e. height_within g place new nodes d.3 e) (λ e. height_within g place new rest d.4 e) (eqb g id) refl (has g nodes) refl
  where
    change : Forest A → Forest A
    change x = inserted place new x

    go : (is_group g nodes ≡ true → height (within g change nodes) ≤ max (height nodes) (depth g nodes + height new)) → (is_group g rest ≡ true → height (within g change rest) ≤ max (height rest) (depth g rest + height new))
        → (b : Bool) → eqb g id ≡ b → (t : Bool) → has g nodes ≡ t
        → max (suc (height (cond b (change nodes) (within g change nodes)))) (height (within g change rest)) ≤ max (max (suc (height nodes)) (height rest)) (cond b 1 (cond t (suc (depth g nodes)) (depth g rest)) + height new)
    go m r true e t i =
        let is : g ≡ id = grind (arith, nat_tests) in
        let out : has g rest ≡ false = ap (λ n. has n rest) is ∙ d.1 in
        let a : height (within g change rest) ≡ height rest = ap height (within_absent g change rest out) in
        let b : height (change nodes) ≡ max (height new) (height nodes) = height_inserted place new nodes in
        let c : max (suc (max (height new) (height nodes))) (height rest) ≤ max (max (suc (height nodes)) (height rest)) (1 + height new) = here_le (height nodes) (height rest) (height new) 0 in
        subst (λ y. max (suc y) (height (within g change rest)) ≤ max (max (suc (height nodes)) (height rest)) (1 + height new)) (sym b)
        (subst (λ y. max (suc (max (height new) (height nodes))) y ≤ max (max (suc (height nodes)) (height rest)) (1 + height new)) (sym a) c)
    go m r false e true i =
        let out : has g rest ≡ false = d.2 g i in
        let a : height (within g change rest) ≡ height rest = ap height (within_absent g change rest out) in
        subst (λ y. max (suc (height (within g change nodes))) y ≤ max (max (suc (height nodes)) (height rest)) (suc (depth g nodes) + height new)) (sym a)
        (inside_le (height nodes) (height (within g change nodes)) (height rest) (depth g nodes) (height new) (m (inside_group i)))
      where
        inside_group : has g nodes ≡ true → is_group g nodes ≡ true
        inside_group i = elim (or_cases (eqb g id) _ h) [ inl k ↦ absurd (cc) | inr k ↦ elim (or_cases (is_group g nodes) (is_group g rest) k) [ inl l ↦ l | inr l ↦ absurd (let t : has g rest ≡ true = group_has g rest l in let u : has g rest ≡ false = d.2 g i in cc) ] ]
    go m r false e false i =
        let a : height (within g change nodes) ≡ height nodes = ap height (within_absent g change nodes i) in
        subst (λ y. max (suc y) (height (within g change rest)) ≤ max (max (suc (height nodes)) (height rest)) (depth g rest + height new)) (sym a)
        (beside_le (suc (height nodes)) (height rest) (height (within g change rest)) (depth g rest) (height new) (r beside_group))
      where
        beside_group : is_group g rest ≡ true
        beside_group = elim (or_cases (eqb g id) _ h) [ inl k ↦ absurd (cc) | inr k ↦ elim (or_cases (is_group g nodes) (is_group g rest) k) [ inl l ↦ absurd (let t : has g nodes ≡ true = group_has g nodes l in cc) | inr l ↦ l ] ]

pub height_without : {A : Type 0} (q : ℕ) (f : Forest A) → height (without q f) ≤ height f
height_without q none = omega arith
height_without {A = A} q (paint id look x rest) = go (height_without q rest) (eqb q id)
  where
    go : height (without q rest) ≤ height rest → (b : Bool) → height (cond b (without q rest) (paint id look x (without q rest))) ≤ max 1 (height rest)
    go h true = omega arith
    go h false = omega arith
height_without {A = A} q (group id look nodes rest) = go (height_without q nodes) (height_without q rest) (eqb q id)
  where
    go : height (without q nodes) ≤ height nodes → height (without q rest) ≤ height rest → (b : Bool) → height (cond b (without q rest) (group id look (without q nodes) (without q rest))) ≤ max (suc (height nodes)) (height rest)
    go m h true = omega arith
    go m h false = omega arith

pub height_look : {A : Type 0} (q : ℕ) (new : Look) (f : Forest A) → height (with_look q new f) ≡ height f
height_look q new none = refl
height_look q new (paint id look x rest) = ap (max 1) (height_look q new rest)
height_look q new (group id look nodes rest) = let a : height (with_look q new nodes) ≡ height nodes = height_look q new nodes in let b : height (with_look q new rest) ≡ height rest = height_look q new rest in rw (a, b) refl

pub has_join : {A : Type 0} (q : ℕ) (a b : Forest A) → has q (join a b) ≡ (has q a || has q b)
has_join q none b = refl
has_join q (paint id look x rest) b = ap (λ s. eqb q id || s) (has_join q rest b) ∙ assoc (eqb q id) (has q rest) (has q b)
  where
    assoc : (a b c : Bool) → (a || (b || c)) ≡ ((a || b) || c)
    assoc true b c = refl
    assoc false b c = refl
has_join q (group id look nodes rest) b = ap (λ s. eqb q id || (has q nodes || s)) (has_join q rest b) ∙ assoc (eqb q id) (has q nodes) (has q rest) (has q b)
  where
    assoc : (a b c d : Bool) → (a || (b || (c || d))) ≡ ((a || (b || c)) || d)
    assoc true b c d = refl
    assoc false true c d = refl
    assoc false false c d = refl

-- what isn't in the node that is taken out stays, at its depth
module _ {A : Type 0} where
  same_absent : (q id : ℕ) (f : Forest A) → eqb q id ≡ true → has id f ≡ false → has q f ≡ false
  same_absent q id f e h = let is : q ≡ id = grind (arith, nat_tests) in ap (λ n. has n f) is ∙ h

  has_without : (q c : ℕ) (f : Forest A) → Distinct f → has c (only q f) ≡ false → has c (without q f) ≡ has c f
  has_without q c none d h = refl
  has_without q c (paint id look x rest) d h = go (λ e. has_without q c rest d.1 e) (eqb q id) refl h
    where
      go : (has c (only q rest) ≡ false → has c (without q rest) ≡ has c rest) → (b : Bool) → eqb q id ≡ b → has c (cond b (paint id look x none) (only q rest)) ≡ false → has c (cond b (without q rest) (paint id look x (without q rest))) ≡ (eqb c id || has c rest)
      go r true e h = ap (has c) (without_none q rest (same_absent q id rest e d.0)) ∙ ap (λ b. b || has c rest) (sym (none_left (eqb c id) _ h))
      go r false e h = ap (λ b. eqb c id || b) (r h)
  has_without q c (group id look nodes rest) d h = go (λ e. has_without q c nodes d.3 e) (λ e. has_without q c rest d.4 e) (eqb q id) refl h
    where
      go : (has c (only q nodes) ≡ false → has c (without q nodes) ≡ has c nodes) → (has c (only q rest) ≡ false → has c (without q rest) ≡ has c rest) → (b : Bool) → eqb q id ≡ b → has c (cond b (group id look nodes none) (join (only q nodes) (only q rest))) ≡ false
          → has c (cond b (without q rest) (group id look (without q nodes) (without q rest))) ≡ (eqb c id || (has c nodes || has c rest))
      go m r true e h = ap (has c) (without_none q rest (same_absent q id rest e d.1)) ∙ sym (ap (λ b. b || (has c nodes || has c rest)) (none_left (eqb c id) _ h) ∙ ap (λ b. b || has c rest) (none_left (has c nodes) _ (none_right (eqb c id) _ h)))
      go m r false e h =
          let f : (has c (only q nodes) || has c (only q rest)) ≡ false = sym (has_join c (only q nodes) (only q rest)) ∙ h in
          ap (λ b. eqb c id || (b || has c (without q rest))) (m (none_left (has c (only q nodes)) _ f)) ∙ ap (λ b. eqb c id || (has c nodes || b)) (r (none_right (has c (only q nodes)) _ f))

  pub depth_without : (q c : ℕ) (f : Forest A) → Distinct f → has c (only q f) ≡ false → depth c (without q f) ≡ depth c f
  depth_without q c none d h = refl
  depth_without q c (paint id look x rest) d h = go (λ e. depth_without q c rest d.1 e) (eqb q id) refl h
    where
      go : (has c (only q rest) ≡ false → depth c (without q rest) ≡ depth c rest) → (b : Bool) → eqb q id ≡ b → has c (cond b (paint id look x none) (only q rest)) ≡ false → depth c (cond b (without q rest) (paint id look x (without q rest))) ≡ cond (eqb c id) 1 (depth c rest)
      go r true e h = ap (depth c) (without_none q rest (same_absent q id rest e d.0)) ∙ sym (kept (eqb c id) 1 (depth c rest) (none_left (eqb c id) _ h))
      go r false e h = ap (cond (eqb c id) 1) (r h)
  depth_without q c (group id look nodes rest) d h = go (λ e. depth_without q c nodes d.3 e) (λ e. depth_without q c rest d.4 e) (λ e. has_without q c nodes d.3 e) (eqb q id) refl h
    where
      go : (has c (only q nodes) ≡ false → depth c (without q nodes) ≡ depth c nodes) → (has c (only q rest) ≡ false → depth c (without q rest) ≡ depth c rest) → (has c (only q nodes) ≡ false → has c (without q nodes) ≡ has c nodes) → (b : Bool) → eqb q id ≡ b
          → has c (cond b (group id look nodes none) (join (only q nodes) (only q rest))) ≡ false
          → depth c (cond b (without q rest) (group id look (without q nodes) (without q rest))) ≡ cond (eqb c id) 1 (cond (has c nodes) (suc (depth c nodes)) (depth c rest))
      go m r s true e h = ap (depth c) (without_none q rest (same_absent q id rest e d.1)) ∙ sym (kept (eqb c id) 1 _ (none_left (eqb c id) _ h) ∙ kept (has c nodes) _ _ (none_left (has c nodes) _ (none_right (eqb c id) _ h)))
      go m r s false e h =
          let f : (has c (only q nodes) || has c (only q rest)) ≡ false = sym (has_join c (only q nodes) (only q rest)) ∙ h in
          let a : (has c (without q nodes)) ≡ has c nodes = s (none_left (has c (only q nodes)) _ f) in
          let b : depth c (without q nodes) ≡ depth c nodes = m (none_left (has c (only q nodes)) _ f) in
          let g : depth c (without q rest) ≡ depth c rest = r (none_right (has c (only q nodes)) _ f) in
          rw (a, b, g) refl

  pub group_without : (q c : ℕ) (f : Forest A) → Distinct f → has c (only q f) ≡ false → is_group c (without q f) ≡ is_group c f
  group_without q c none d h = refl
  group_without q c (paint id look x rest) d h = go (λ e. group_without q c rest d.1 e) (eqb q id) refl h
    where
      go : (has c (only q rest) ≡ false → is_group c (without q rest) ≡ is_group c rest) → (b : Bool) → eqb q id ≡ b → has c (cond b (paint id look x none) (only q rest)) ≡ false → is_group c (cond b (without q rest) (paint id look x (without q rest))) ≡ is_group c rest
      go r true e h = ap (is_group c) (without_none q rest (same_absent q id rest e d.0))
      go r false e h = r h
  group_without q c (group id look nodes rest) d h = go (λ e. group_without q c nodes d.3 e) (λ e. group_without q c rest d.4 e) (eqb q id) refl h
    where
      no_group : has c nodes ≡ false → is_group c nodes ≡ false
      no_group out = by (is_group c nodes) refl
        where
          by : (b : Bool) → is_group c nodes ≡ b → b ≡ false
          by true e = absurd (let t : has c nodes ≡ true = group_has c nodes e in cc)
          by false e = refl

      go : (has c (only q nodes) ≡ false → is_group c (without q nodes) ≡ is_group c nodes) → (has c (only q rest) ≡ false → is_group c (without q rest) ≡ is_group c rest) → (b : Bool) → eqb q id ≡ b → has c (cond b (group id look nodes none) (join (only q nodes) (only q rest))) ≡ false
          → is_group c (cond b (without q rest) (group id look (without q nodes) (without q rest))) ≡ (eqb c id || (is_group c nodes || is_group c rest))
      go m r true e h = ap (is_group c) (without_none q rest (same_absent q id rest e d.1)) ∙ sym (ap (λ b. b || (is_group c nodes || is_group c rest)) (none_left (eqb c id) _ h) ∙ ap (λ b. b || is_group c rest) (no_group (none_left (has c nodes) _ (none_right (eqb c id) _ h))))
      go m r false e h =
          let f : (has c (only q nodes) || has c (only q rest)) ≡ false = sym (has_join c (only q nodes) (only q rest)) ∙ h in
          ap (λ b. eqb c id || (b || is_group c (without q rest))) (m (none_left (has c (only q nodes)) _ f)) ∙ ap (λ b. eqb c id || (is_group c nodes || b)) (r (none_right (has c (only q nodes)) _ f))

not_below : (n : ℕ) → ltb 16 n ≡ false → n ≤ 16
not_below n e = grind (arith, nat_tests)

height_set_in : {A : Type 0} (g place n : ℕ) (nodes f : Forest A) → Distinct f → takes g f ≡ true → depth g f + height nodes ≤ n → height f ≤ n → height nodes ≤ n → height (set_in g place nodes f) ≤ n
height_set_in g place n nodes f d t deep high small = go (eqb g 0) refl t
  where
    go : (b : Bool) → eqb g 0 ≡ b → (b || is_group g f) ≡ true → height (cond b (inserted place nodes f) (within g (inserted place nodes) f)) ≤ n
    go true e t = let h : height (inserted place nodes f) ≡ max (height nodes) (height f) = height_inserted place nodes f in omega arith
    go false e t = let h : height (within g (inserted place nodes) f) ≤ max (height f) (depth g f + height nodes) = height_within g place nodes f d t in omega arith

new_high : {A : Type 0} (id above place : ℕ) (nodes f : Forest A) → height nodes ≡ 1 → no_new id above place f ≡ None → IsTree f → height f ≤ 16 → height (set_in above place nodes f) ≤ 16
new_high id above place nodes f one ok t high =
    let may = new_may id above place f ok in
    let low : depth above f + 1 ≤ 16 = not_below _ may.4 in
    height_set_in above place 16 nodes f (tree_distinct f t) (not-false _ may.2) (omega arith) high (omega arith)

height_only_le : (d h : ℕ) → d + h ≤ 16 → h ≤ 16
height_only_le d h e = omega arith

-- at most 16 levels
pub height_changed : {A : Type 0} (fresh : Rgba → A) (c : Change) (f new : Forest A) → changed fresh c f ≡ Ok new → IsTree f → height f ≤ 16 → height new ≤ 16
height_changed {A = A} fresh (change.Layer id above place pixel) f new e t high =
    let a : (no_new id above place f ≡ None) × (set_in above place (paint id new_look (fresh pixel) none) f ≡ new) = answered _ _ _ e in
    subst (λ n. height n ≤ 16) a.1 (new_high id above place (paint id new_look (fresh pixel) none) f (omega arith) a.0 t high)
height_changed {A = A} fresh (change.Group id above place) f new e t high =
    let a : (no_new id above place f ≡ None) × (set_in above place (group id new_look none none) f ≡ new) = answered _ _ _ e in
    subst (λ n. height n ≤ 16) a.1 (new_high id above place (group id new_look none none) f (omega arith) a.0 t high)
height_changed fresh (change.Remove id) f new e t high =
    let a : (no_node id f ≡ None) × (without id f ≡ new) = answered _ _ _ e in
    let h : height (without id f) ≤ height f = height_without id f in
    subst (λ n. height n ≤ 16) a.1 (omega arith)
height_changed fresh (change.Place id above place) f new e t high =
    let a : (no_place id above place f ≡ None) × (set_in above place (only id f) (without id f) ≡ new) = answered _ _ _ e in
    let may = place_may id above place f a.0 in
    let d : Distinct f = tree_distinct f t in
    let low : depth above f + height (only id f) ≤ 16 = not_below _ may.4 in
    let same : depth above (without id f) ≡ depth above f = depth_without id above f d may.3 in
    let groups : takes above (without id f) ≡ true = ap (λ b. eqb above 0 || b) (group_without id above f d may.3) ∙ not-false _ may.2 in
    let h : height (without id f) ≤ height f = height_without id f in
    subst (λ n. height n ≤ 16) a.1 (height_set_in above place 16 (only id f) (without id f) (tree_distinct (without id f) (tree_without id f t)) groups (omega arith) (omega arith) (height_only_le (depth above f) (height (only id f)) low))
height_changed fresh (change.Look id look) f new e t high =
    let a : (no_node id f ≡ None) × (with_look id look f ≡ new) = answered _ _ _ e in
    let h : height (with_look id look f) ≡ height f = height_look id look f in
    subst (λ n. height n ≤ 16) a.1 (omega arith)
