-- The groups that a walk composes: each after those in it, none twice, and with each its parent.
use Rattle.std.proofs.Common.{◌≡◌, ℕ, Bool, true, false, ◌||◌, cond, Option, Some, None, List, [], ◌∷◌, ◌++◌, refl, sym, ap, ◌∙◌, arith, eqb, subst, append_assoc, ◌⊎◌, inl, inr}
use Rattle.std.specs.List.{list_any}
use Rattle.std.proofs.lemmas.Bool.Decides.{nat_tests}
use Rattle.std.proofs.lemmas.List.Folds.{list_any-append}
pub use Rattle.geom_core.proofs.Tests.{or_cases}
use Rattle.geom_core.proofs.Tests.{none_left, none_right, taken, kept, or_left, or_right, neither, equal_test, or_again, same_choice}
use Rattle.doc_model.specs.declared.tree.Look.{Look}
use Rattle.doc_model.specs.Forest.{Forest, none, paint, group, has, is_group, join, children, content, with_content, or_else}
use Rattle.doc_model.specs.Readers.{parent, path, order}
use Rattle.doc_model.proofs.Parents.{Distinct, side, side_has, child_has}

-- whether an id stands in a list
abbrev pub on : ℕ → List ℕ → Bool
on g gs = list_any (λ q. eqb q g) gs

turned : (a b : ℕ) → eqb a b ≡ eqb b a
turned a b = grind (arith, nat_tests)

pub on_append : (g : ℕ) (as' bs : List ℕ) → on g (as' ++ bs) ≡ (on g as' || on g bs)
on_append g as' bs = list_any-append (λ q. eqb q g) as' bs

-- q isn't this node, which is elsewhere
pub other_than : {A : Type 0} (q id : ℕ) (f : Forest A) → has id f ≡ false → has q f ≡ true → eqb q id ≡ false
other_than q id f absent there = go (eqb q id) refl
  where
    go : (b : Bool) → eqb q id ≡ b → b ≡ false
    go true e = let same : q ≡ id = grind (arith, nat_tests) in let t : has q f ≡ false = ap (λ n. has n f) same ∙ absent in cc
    go false e = refl

pub not_both : {A : Type 0} (q : ℕ) (a b : Forest A) → ((q : ℕ) → has q a ≡ true → has q b ≡ false) → has q b ≡ true → has q a ≡ false
not_both q a b apart h = go (has q a) refl
  where
    go : (t : Bool) → has q a ≡ t → t ≡ false
    go true e = let f : has q b ≡ false = apart q e in cc
    go false e = refl

-- a group is there
pub group_has : {A : Type 0} (q : ℕ) (f : Forest A) → is_group q f ≡ true → has q f ≡ true
group_has q none e = e
group_has q (paint id look x rest) e = or_right (eqb q id) _ (group_has q rest e)
group_has q (group id look nodes rest) e = elim (or_cases (eqb q id) (is_group q nodes || is_group q rest) e) [
  | inl h ↦ or_left (eqb q id) _ h
  | inr h ↦ or_right (eqb q id) _ (elim (or_cases (is_group q nodes) (is_group q rest) h) [ inl i ↦ or_left (has q nodes) _ (group_has q nodes i) | inr i ↦ or_right (has q nodes) _ (group_has q rest i) ])
]

absent_group : {A : Type 0} (q : ℕ) (f : Forest A) → has q f ≡ false → is_group q f ≡ false
absent_group q f e = go (is_group q f) refl
  where
    go : (b : Bool) → is_group q f ≡ b → b ≡ false
    go true h = let t : has q f ≡ true = group_has q f h in cc
    go false h = refl

-- a node that isn't there has no children
pub join_none : {A : Type 0} (a : Forest A) → join a none ≡ a
join_none none = refl
join_none (paint id look x rest) = ap (paint id look x) (join_none rest)
join_none (group id look nodes rest) = ap (group id look nodes) (join_none rest)

pub children_absent : {A : Type 0} (q : ℕ) (f : Forest A) → has q f ≡ false → children q f ≡ none
children_absent q none e = refl
children_absent q (paint id look x rest) e = children_absent q rest (none_right (eqb q id) _ e)
children_absent q (group id look nodes rest) e = kept (eqb q id) _ _ (none_left (eqb q id) _ e)
    ∙ ap (λ a. join a (children q rest)) (children_absent q nodes (none_left (has q nodes) _ (none_right (eqb q id) _ e)))
    ∙ children_absent q rest (none_right (has q nodes) _ (none_right (eqb q id) _ e))

-- what has a child is a group
pub child_group : {A : Type 0} (g c : ℕ) (f : Forest A) → side c (children g f) ≡ true → is_group g f ≡ true
child_group g c none e = e
child_group g c (paint id look x rest) e = child_group g c rest e
child_group {A = A} g c (group id look nodes rest) e = go (λ h. child_group g c nodes h) (λ h. child_group g c rest h) (eqb g id) refl e
  where
    side_join : (a b : Forest A) → side c (join a b) ≡ (side c a || side c b)
    side_join none b = refl
    side_join (paint id look x rest) b = ap (λ s. eqb c id || s) (side_join rest b) ∙ or_again (eqb c id) (side c rest) (side c b)
    side_join (group id look nodes rest) b = ap (λ s. eqb c id || s) (side_join rest b) ∙ or_again (eqb c id) (side c rest) (side c b)

    go : (side c (children g nodes) ≡ true → is_group g nodes ≡ true) → (side c (children g rest) ≡ true → is_group g rest ≡ true) → (b : Bool) → eqb g id ≡ b
        → side c (cond b nodes (join (children g nodes) (children g rest))) ≡ true → (eqb g id || (is_group g nodes || is_group g rest)) ≡ true
    go m r true f e = or_left (eqb g id) _ f
    go m r false f e = or_right (eqb g id) _ (elim (or_cases (side c (children g nodes)) (side c (children g rest)) (sym (side_join (children g nodes) (children g rest)) ∙ e)) [
      | inl h ↦ or_left (is_group g nodes) _ (m h)
      | inr h ↦ or_right (is_group g nodes) _ (r h)
    ])

-- the order has just the groups
pub on_order : {A : Type 0} (g : ℕ) (f : Forest A) → on g (order f) ≡ is_group g f
on_order g none = refl
on_order g (paint id look x rest) = on_order g rest
on_order g (group id look nodes rest) = on_append g (order nodes) (id ∷ order rest)
    ∙ ap (λ b. b || (eqb id g || on g (order rest))) (on_order g nodes) ∙ ap (λ b. is_group g nodes || (eqb id g || b)) (on_order g rest)
    ∙ turned_round (is_group g nodes) (eqb id g) (is_group g rest) ∙ ap (λ b. b || (is_group g nodes || is_group g rest)) (turned id g)
  where
    turned_round : (a b c : Bool) → (a || (b || c)) ≡ (b || (a || c))
    turned_round true true c = refl
    turned_round true false c = refl
    turned_round false b c = refl

-- what is on a path is there
pub path_has : {A : Type 0} (c q : ℕ) (f : Forest A) → on c (path q f) ≡ true → has c f ≡ true
path_has c q none e = e
path_has c q (paint id look x rest) e = go (λ h. path_has c q rest h) (eqb q id) e
  where
    go : (on c (path q rest) ≡ true → has c rest ≡ true) → (b : Bool) → on c (cond b (id ∷ []) (path q rest)) ≡ true → (eqb c id || has c rest) ≡ true
    go r true e = elim (or_cases (eqb id c) false e) [ inl h ↦ or_left (eqb c id) _ (turned c id ∙ h) | inr h ↦ (let t : false ≡ true = h in cc) ]
    go r false e = or_right (eqb c id) _ (r e)
path_has c q (group id look nodes rest) e = go (λ h. path_has c q nodes h) (λ h. path_has c q rest h) (eqb q id) (has q nodes) e
  where
    go : (on c (path q nodes) ≡ true → has c nodes ≡ true) → (on c (path q rest) ≡ true → has c rest ≡ true) → (b t : Bool) → on c (cond b (id ∷ []) (cond t (path q nodes ++ id ∷ []) (path q rest))) ≡ true
        → (eqb c id || (has c nodes || has c rest)) ≡ true
    go m r true t e = elim (or_cases (eqb id c) false e) [ inl h ↦ or_left (eqb c id) _ (turned c id ∙ h) | inr h ↦ (let t : false ≡ true = h in cc) ]
    go m r false false e = or_right (eqb c id) _ (or_right (has c nodes) _ (r e))
    go m r false true e = elim (or_cases (on c (path q nodes)) (eqb id c || false) (sym (on_append c (path q nodes) (id ∷ [])) ∙ e)) [
      | inl h ↦ or_right (eqb c id) _ (or_left (has c nodes) _ (m h))
      | inr h ↦ elim (or_cases (eqb id c) false h) [ inl i ↦ or_left (eqb c id) _ (turned c id ∙ i) | inr i ↦ (let t : false ≡ true = i in cc) ]
    ]

-- a node is on its path
pub path_self : {A : Type 0} (q : ℕ) (f : Forest A) → has q f ≡ true → on q (path q f) ≡ true
path_self q none e = e
path_self q (paint id look x rest) e = go (λ h. path_self q rest h) (eqb q id) refl e
  where
    go : (has q rest ≡ true → on q (path q rest) ≡ true) → (b : Bool) → eqb q id ≡ b → (b || has q rest) ≡ true → on q (cond b (id ∷ []) (path q rest)) ≡ true
    go r true f e = or_left (eqb id q) _ (turned id q ∙ f)
    go r false f e = r e
path_self q (group id look nodes rest) e = go (λ h. path_self q nodes h) (λ h. path_self q rest h) (eqb q id) refl (has q nodes) refl e
  where
    go : (has q nodes ≡ true → on q (path q nodes) ≡ true) → (has q rest ≡ true → on q (path q rest) ≡ true) → (b : Bool) → eqb q id ≡ b → (t : Bool) → has q nodes ≡ t → (b || (t || has q rest)) ≡ true
        → on q (cond b (id ∷ []) (cond t (path q nodes ++ id ∷ []) (path q rest))) ≡ true
    go m r true f t i e = or_left (eqb id q) _ (turned id q ∙ f)
    go m r false f true i e = on_append q (path q nodes) (id ∷ []) ∙ or_left (on q (path q nodes)) _ (m i)
    go m r false f false i e = r e

-- what is on the path of a group is a group
pub path_groups : {A : Type 0} (c q : ℕ) (f : Forest A) → Distinct f → is_group q f ≡ true → on c (path q f) ≡ true → is_group c f ≡ true
path_groups c q none d g e = e
path_groups c q (paint id look x rest) d g e =
    let skip : eqb q id ≡ false = other_than q id rest d.0 (group_has q rest g) in
    path_groups c q rest d.1 g (ap (on c) (sym (kept (eqb q id) _ _ skip)) ∙ e)
path_groups c q (group id look nodes rest) d g e = go (λ h i. path_groups c q nodes d.3 h i) (λ h i. path_groups c q rest d.4 h i) (eqb q id) refl (has q nodes) refl e g
  where
    go : (is_group q nodes ≡ true → on c (path q nodes) ≡ true → is_group c nodes ≡ true) → (is_group q rest ≡ true → on c (path q rest) ≡ true → is_group c rest ≡ true)
        → (b : Bool) → eqb q id ≡ b → (t : Bool) → has q nodes ≡ t → on c (cond b (id ∷ []) (cond t (path q nodes ++ id ∷ []) (path q rest))) ≡ true → (b || (is_group q nodes || is_group q rest)) ≡ true
        → (eqb c id || (is_group c nodes || is_group c rest)) ≡ true
    go m r true f t i e g = elim (or_cases (eqb id c) false e) [ inl h ↦ or_left (eqb c id) _ (turned c id ∙ h) | inr h ↦ (let t : false ≡ true = h in cc) ]
    go m r false f true i e g = elim (or_cases (on c (path q nodes)) (eqb id c || false) (sym (on_append c (path q nodes) (id ∷ [])) ∙ e)) [
      | inl h ↦ or_right (eqb c id) _ (or_left (is_group c nodes) _ (m (elim (or_cases (is_group q nodes) (is_group q rest) g) [ inl k ↦ k | inr k ↦ (let t : has q rest ≡ false = d.2 q i in let u : has q rest ≡ true = group_has q rest k in absurd (cc)) ]) h))
      | inr h ↦ elim (or_cases (eqb id c) false h) [ inl k ↦ or_left (eqb c id) _ (turned c id ∙ k) | inr k ↦ (let t : false ≡ true = k in cc) ]
    ]
    go m r false f false i e g = or_right (eqb c id) _ (or_right (is_group c nodes) _ (r (elim (or_cases (is_group q nodes) (is_group q rest) g) [ inl k ↦ (let u : has q nodes ≡ true = group_has q nodes k in absurd (cc)) | inr k ↦ k ]) e))

-- a list of groups in which none stands twice and none has a child at or after itself
abbrev pub Orderly : {A : Type 0} → (ℕ → Forest A) → List ℕ → Type 0
Orderly kids [] = Unit {0}
Orderly kids (g ∷ gs) = (on g gs ≡ false) × ((c : ℕ) → side c (kids g) ≡ true → on c (g ∷ gs) ≡ false) × Orderly kids gs

-- the children of the groups of f are those in f
abbrev pub KidsIn : {A : Type 0} → (ℕ → Forest A) → Forest A → Type 0
KidsIn kids f = (g : ℕ) → has g f ≡ true → kids g ≡ children g f

module _ {A : Type 0} where
  pub kids_rest : (kids : ℕ → Forest A) (id : ℕ) (look : Look) (x : A) (rest : Forest A) → has id rest ≡ false → KidsIn kids (paint id look x rest) → KidsIn kids rest
  kids_rest kids id look x rest out k g h = k g (or_right (eqb g id) _ h)

  pub kids_nodes : (kids : ℕ → Forest A) (id : ℕ) (look : Look) (nodes rest : Forest A) → Distinct (group id look nodes rest) → KidsIn kids (group id look nodes rest) → KidsIn kids nodes
  kids_nodes kids id look nodes rest d k g h = k g (or_right (eqb g id) _ (or_left (has g nodes) _ h)) ∙ kept (eqb g id) _ _ (other_than g id nodes d.0 h)
      ∙ ap (join (children g nodes)) (children_absent g rest (d.2 g h)) ∙ join_none (children g nodes)

  pub kids_other : (kids : ℕ → Forest A) (id : ℕ) (look : Look) (nodes rest : Forest A) → Distinct (group id look nodes rest) → KidsIn kids (group id look nodes rest) → KidsIn kids rest
  kids_other kids id look nodes rest d k g h = k g (or_right (eqb g id) _ (or_right (has g nodes) _ h)) ∙ kept (eqb g id) _ _ (other_than g id rest d.1 h)
      ∙ ap (λ a. join a (children g rest)) (children_absent g nodes (not_both g nodes rest d.2 h))

  pub kids_here : (kids : ℕ → Forest A) (id : ℕ) (look : Look) (nodes rest : Forest A) → KidsIn kids (group id look nodes rest) → kids id ≡ nodes
  kids_here kids id look nodes rest k = k id (or_left (eqb id id) _ (equal_test id)) ∙ taken (eqb id id) _ _ (equal_test id)

  -- a group before what is round it
  head_orderly : (kids : ℕ → Forest A) (id : ℕ) (nodes : Forest A) (gs : List ℕ) → kids id ≡ nodes → has id nodes ≡ false → on id gs ≡ false → ((c : ℕ) → has c nodes ≡ true → on c gs ≡ false) → Orderly kids gs → Orderly kids (id ∷ gs)
  head_orderly kids id nodes gs is out first clear rest = (first, (λ c h. below c (ap (side c) (sym is) ∙ h)), rest)
    where
      below : (c : ℕ) → side c nodes ≡ true → (eqb id c || on c gs) ≡ false
      below c h = neither (eqb id c) _ (turned id c ∙ other_than c id nodes out (side_has c nodes h)) (clear c (side_has c nodes h))

  pub order_orderly : (kids : ℕ → Forest A) (f : Forest A) (gs : List ℕ) → Distinct f → KidsIn kids f → ((c : ℕ) → has c f ≡ true → on c gs ≡ false) → Orderly kids gs → Orderly kids (order f ++ gs)
  order_orderly kids none gs d k clear o = o
  order_orderly kids (paint id look x rest) gs d k clear o = order_orderly kids rest gs d.1 (kids_rest kids id look x rest d.0 k) (λ c h. clear c (or_right (eqb c id) _ h)) o
  order_orderly kids (group id look nodes rest) gs d k clear o =
      subst (Orderly kids) (sym (append_assoc (order nodes) (id ∷ order rest) gs))
      (order_orderly kids nodes (id ∷ (order rest ++ gs)) d.3 (kids_nodes kids id look nodes rest d k)
      (λ c h. neither (eqb id c) _ (turned id c ∙ other_than c id nodes d.0 h) (after c (d.2 c h) (clear c (or_right (eqb c id) _ (or_left (has c nodes) _ h)))))
      (head_orderly kids id nodes (order rest ++ gs) (kids_here kids id look nodes rest k) d.0 (after id d.1 (clear id (or_left (eqb id id) _ (equal_test id))))
      (λ c h. after c (d.2 c h) (clear c (or_right (eqb c id) _ (or_left (has c nodes) _ h))))
      (order_orderly kids rest gs d.4 (kids_other kids id look nodes rest d k) (λ c h. clear c (or_right (eqb c id) _ (or_right (has c nodes) _ h))) o)))
    where
      after : (c : ℕ) → has c rest ≡ false → on c gs ≡ false → on c (order rest ++ gs) ≡ false
      after c out h = on_append c (order rest) gs ∙ neither _ _ (on_order c rest ∙ absent_group c rest out) h

  pub path_orderly : (kids : ℕ → Forest A) (q : ℕ) (f : Forest A) (gs : List ℕ) → Distinct f → KidsIn kids f → ((c : ℕ) → has c f ≡ true → on c gs ≡ false) → Orderly kids gs → Orderly kids (path q f ++ gs)
  path_orderly kids q none gs d k clear o = o
  path_orderly kids q (paint id look x rest) gs d k clear o = go (path_orderly kids q rest gs d.1 (kids_rest kids id look x rest d.0 k) (λ c h. clear c (or_right (eqb c id) _ h)) o) (eqb q id)
    where
      no_kids : kids id ≡ none
      no_kids = k id (or_left (eqb id id) _ (equal_test id)) ∙ children_absent id rest d.0

      go : Orderly kids (path q rest ++ gs) → (b : Bool) → Orderly kids (cond b (id ∷ []) (path q rest) ++ gs)
      go r true = head_orderly kids id none gs no_kids refl (clear id (or_left (eqb id id) _ (equal_test id))) (λ c h. (let t : false ≡ true = h in cc)) o
      go r false = r
  path_orderly kids q (group id look nodes rest) gs d k clear o =
      go (path_orderly kids q nodes (id ∷ gs) d.3 (kids_nodes kids id look nodes rest d k)
      (λ c h. neither (eqb id c) _ (turned id c ∙ other_than c id nodes d.0 h) (clear c (or_right (eqb c id) _ (or_left (has c nodes) _ h)))) here)
      (path_orderly kids q rest gs d.4 (kids_other kids id look nodes rest d k) (λ c h. clear c (or_right (eqb c id) _ (or_right (has c nodes) _ h))) o) (eqb q id) (has q nodes)
    where
      here : Orderly kids (id ∷ gs)
      here = head_orderly kids id nodes gs (kids_here kids id look nodes rest k) d.0 (clear id (or_left (eqb id id) _ (equal_test id))) (λ c h. clear c (or_right (eqb c id) _ (or_left (has c nodes) _ h))) o

      go : Orderly kids (path q nodes ++ id ∷ gs) → Orderly kids (path q rest ++ gs) → (b t : Bool) → Orderly kids (cond b (id ∷ []) (cond t (path q nodes ++ id ∷ []) (path q rest)) ++ gs)
      go m r true t = here
      go m r false true = subst (Orderly kids) (sym (append_assoc (path q nodes) (id ∷ []) gs)) m
      go m r false false = r

  -- the parent of each node on a path is on it too
  pub path_up : (c g q above : ℕ) (f : Forest A) (gs : List ℕ) → Distinct f → on above gs ≡ true → on c (path q f) ≡ true → parent c above f ≡ Some g → on g (path q f ++ gs) ≡ true
  path_up c g q above none gs d up e p = absurd (let t : false ≡ true = e in cc)
  path_up c g q above (paint id look x rest) gs d up e p = go (λ h i. path_up c g q above rest gs d.1 up h i) (eqb q id) e
    where
      up_here : eqb c id ≡ true → on g gs ≡ true
      up_here h = let same : Some above ≡ Some g = sym (taken (eqb c id) _ _ h) ∙ p in let is : above ≡ g = cc in ap (λ n. on n gs) (sym is) ∙ up

      go : (on c (path q rest) ≡ true → parent c above rest ≡ Some g → on g (path q rest ++ gs) ≡ true) → (b : Bool) → on c (cond b (id ∷ []) (path q rest)) ≡ true → on g (cond b (id ∷ []) (path q rest) ++ gs) ≡ true
      go r true e = or_right (eqb id g) _ (up_here (turned c id ∙ elim (or_cases (eqb id c) false e) [ inl h ↦ h | inr h ↦ (let t : false ≡ true = h in cc) ]))
      go r false e = r e (sym (kept (eqb c id) _ _ (other_than c id rest d.0 (path_has c q rest e))) ∙ p)
  path_up c g q above (group id look nodes rest) gs d up e p = go (λ h i. path_up c g q id nodes (id ∷ gs) d.3 (or_left (eqb id id) _ (equal_test id)) h i) (λ h i. path_up c g q above rest gs d.4 up h i) (eqb q id) (has q nodes) e
    where
      up_here : eqb c id ≡ true → on g gs ≡ true
      up_here h = let same : Some above ≡ Some g = sym (taken (eqb c id) _ _ h) ∙ p in let is : above ≡ g = cc in ap (λ n. on n gs) (sym is) ∙ up

      inside : has c nodes ≡ true → parent c id nodes ≡ Some g
      inside h = sym (taken (has c nodes) _ _ h) ∙ sym (kept (eqb c id) _ _ (other_than c id nodes d.0 h)) ∙ p

      outside : has c rest ≡ true → parent c above rest ≡ Some g
      outside h = sym (kept (has c nodes) _ _ (not_both c nodes rest d.2 h)) ∙ sym (kept (eqb c id) _ _ (other_than c id rest d.1 h)) ∙ p

      go : (on c (path q nodes) ≡ true → parent c id nodes ≡ Some g → on g (path q nodes ++ id ∷ gs) ≡ true) → (on c (path q rest) ≡ true → parent c above rest ≡ Some g → on g (path q rest ++ gs) ≡ true)
          → (b t : Bool) → on c (cond b (id ∷ []) (cond t (path q nodes ++ id ∷ []) (path q rest))) ≡ true → on g (cond b (id ∷ []) (cond t (path q nodes ++ id ∷ []) (path q rest)) ++ gs) ≡ true
      go m r true t e = or_right (eqb id g) _ (up_here (turned c id ∙ elim (or_cases (eqb id c) false e) [ inl h ↦ h | inr h ↦ (let t : false ≡ true = h in cc) ]))
      go m r false true e = elim (or_cases (on c (path q nodes)) (eqb id c || false) (sym (on_append c (path q nodes) (id ∷ [])) ∙ e)) [
        | inl h ↦ ap (on g) (append_assoc (path q nodes) (id ∷ []) gs) ∙ m h (inside (path_has c q nodes h))
        | inr h ↦ ap (on g) (append_assoc (path q nodes) (id ∷ []) gs) ∙ on_append g (path q nodes) (id ∷ gs) ∙ or_right (on g (path q nodes)) _ (or_right (eqb id g) _ (up_here (turned c id ∙ elim (or_cases (eqb id c) false h) [ inl i ↦ i | inr i ↦ (let t : false ≡ true = i in cc) ])))
      ]
      go m r false false e = r e (outside (path_has c q rest e))

  pub content_has : (q : ℕ) (f : Forest A) (y : A) → content q f ≡ Some y → has q f ≡ true
  content_has q none y e = cc
  content_has q (paint id look z rest) y e = pick (λ h. content_has q rest y h) (eqb q id) e
    where
      pick : (content q rest ≡ Some y → has q rest ≡ true) → (b : Bool) → cond b (Some z) (content q rest) ≡ Some y → (b || has q rest) ≡ true
      pick r true e = refl
      pick r false e = r e
  content_has q (group id look nodes rest) y e = or_right (eqb q id) _ (pick (λ h. content_has q nodes y h) (λ h. content_has q rest y h) (content q nodes) refl e)
    where
      pick : (content q nodes ≡ Some y → has q nodes ≡ true) → (content q rest ≡ Some y → has q rest ≡ true) → (o : Option A) → content q nodes ≡ o → or_else o (content q rest) ≡ Some y → (has q nodes || has q rest) ≡ true
      pick m r None f e = or_right (has q nodes) _ (r e)
      pick m r (Some z) f e = or_left (has q nodes) _ (m (f ∙ e))

  -- a paint node is no group
  clash : (q : ℕ) (x : A) (f : Forest A) → Distinct f → is_group q f ≡ true → content q f ≡ Some x → ⊥
  clash q x none d h e = cc
  clash q x (paint id look z rest) d h e = clash q x rest d.1 h (sym (kept (eqb q id) _ _ (other_than q id rest d.0 (group_has q rest h))) ∙ e)
  clash q x (group id look nodes rest) d h e = pick (λ g i. clash q x nodes d.3 g i) (λ g i. clash q x rest d.4 g i) (content q nodes) refl e
    where
      -- where it is not inside, it is beside
      beside : has q nodes ≡ false → has q rest ≡ true → is_group q rest ≡ true
      beside out there = elim (or_cases (eqb q id) (is_group q nodes || is_group q rest) h) [
        | inl i ↦ absurd (let t : eqb q id ≡ false = other_than q id rest d.1 there in cc)
        | inr i ↦ elim (or_cases (is_group q nodes) (is_group q rest) i) [ inl j ↦ absurd (let t : has q nodes ≡ true = group_has q nodes j in cc) | inr j ↦ j ]
      ]

      inside : has q nodes ≡ true → is_group q nodes ≡ true
      inside there = elim (or_cases (eqb q id) (is_group q nodes || is_group q rest) h) [
        | inl i ↦ absurd (let t : eqb q id ≡ false = other_than q id nodes d.0 there in cc)
        | inr i ↦ elim (or_cases (is_group q nodes) (is_group q rest) i) [ inl j ↦ j | inr j ↦ absurd (let t : has q rest ≡ true = group_has q rest j in let u : has q rest ≡ false = d.2 q there in cc) ]
      ]

      pick : (is_group q nodes ≡ true → content q nodes ≡ Some x → ⊥) → (is_group q rest ≡ true → content q rest ≡ Some x → ⊥) → (o : Option A) → content q nodes ≡ o → or_else o (content q rest) ≡ Some x → ⊥
      pick m r None f e = let there : has q rest ≡ true = content_has q rest x e in r (beside (not_both q nodes rest d.2 there) there) e
      pick m r (Some z) f e = m (inside (content_has q nodes x (f ∙ e))) (f ∙ e)

  same_group : (id : ℕ) (look : Look) {a a' b b' : Forest A} → a ≡ a' → b ≡ b' → group id look a b ≡ group id look a' b'
  same_group id look e h i = group id look (e i) (h i)

  content_absent : (q : ℕ) (f : Forest A) → has q f ≡ false → (x : A) → with_content q x f ≡ f
  content_absent q none h x = refl
  content_absent q (paint id look y rest) h x = ap (λ z. paint id look z (with_content q x rest)) (kept (eqb q id) x y (none_left (eqb q id) _ h)) ∙ ap (paint id look y) (content_absent q rest (none_right (eqb q id) _ h) x)
  content_absent q (group id look nodes rest) h x = same_group id look (content_absent q nodes (none_left (has q nodes) _ (none_right (eqb q id) _ h)) x) (content_absent q rest (none_right (has q nodes) _ (none_right (eqb q id) _ h)) x)

  -- to set the content that is there changes nothing
  pub content_put_back : (q : ℕ) (x : A) (f : Forest A) → Distinct f → content q f ≡ Some x → with_content q x f ≡ f
  content_put_back q x none d e = refl
  content_put_back q x (paint id look y rest) d e = go (λ h. content_put_back q x rest d.1 h) (eqb q id) refl e
    where
      go : (content q rest ≡ Some x → with_content q x rest ≡ rest) → (b : Bool) → eqb q id ≡ b → cond b (Some y) (content q rest) ≡ Some x → paint id look (cond b x y) (with_content q x rest) ≡ paint id look y rest
      go r true f e = let same : y ≡ x = cc in let is : q ≡ id = grind (arith, nat_tests) in
          ap (λ z. paint id look z (with_content q x rest)) (sym same) ∙ ap (paint id look y) (content_absent q rest (ap (λ n. has n rest) is ∙ d.0) x)
      go r false f e = ap (paint id look y) (r e)
  content_put_back q x (group id look nodes rest) d e = go (λ h. content_put_back q x nodes d.3 h) (λ h. content_put_back q x rest d.4 h) (content q nodes) refl e
    where
      go : (content q nodes ≡ Some x → with_content q x nodes ≡ nodes) → (content q rest ≡ Some x → with_content q x rest ≡ rest) → (o : Option A) → content q nodes ≡ o → or_else o (content q rest) ≡ Some x
          → group id look (with_content q x nodes) (with_content q x rest) ≡ group id look nodes rest
      go m r None f e = same_group id look (content_absent q nodes (not_both q nodes rest d.2 (content_has q rest x e)) x) (r e)
      go m r (Some z) f e = same_group id look (m (f ∙ e)) (content_absent q rest (d.2 q (content_has q nodes x (f ∙ e))) x)

  -- other pixels change no id and no group
  pub has_with : (c q : ℕ) (x : A) (f : Forest A) → has c (with_content q x f) ≡ has c f
  has_with c q x none = refl
  has_with c q x (paint id look y rest) = ap (λ b. eqb c id || b) (has_with c q x rest)
  has_with c q x (group id look nodes rest) = ap (λ b. eqb c id || (b || has c (with_content q x rest))) (has_with c q x nodes) ∙ ap (λ b. eqb c id || (has c nodes || b)) (has_with c q x rest)

  pub is_group_with : (c q : ℕ) (x : A) (f : Forest A) → is_group c (with_content q x f) ≡ is_group c f
  is_group_with c q x none = refl
  is_group_with c q x (paint id look y rest) = is_group_with c q x rest
  is_group_with c q x (group id look nodes rest) = ap (λ b. eqb c id || (b || is_group c (with_content q x rest))) (is_group_with c q x nodes) ∙ ap (λ b. eqb c id || (is_group c nodes || b)) (is_group_with c q x rest)

  pub order_with : (q : ℕ) (x : A) (f : Forest A) → order (with_content q x f) ≡ order f
  order_with q x none = refl
  order_with q x (paint id look y rest) = order_with q x rest
  order_with q x (group id look nodes rest) = ap (λ gs. gs ++ (id ∷ order (with_content q x rest))) (order_with q x nodes) ∙ ap (λ gs. order nodes ++ (id ∷ gs)) (order_with q x rest)

  pub path_with : (c q : ℕ) (x : A) (f : Forest A) → path c (with_content q x f) ≡ path c f
  path_with c q x none = refl
  path_with c q x (paint id look y rest) = same_choice (eqb c id) refl (path_with c q x rest)
  path_with c q x (group id look nodes rest) = same_choice (eqb c id) refl
      (ap (λ b. cond b (path c (with_content q x nodes) ++ id ∷ []) (path c (with_content q x rest))) (has_with c q x nodes)
      ∙ same_choice (has c nodes) (ap (λ gs. gs ++ id ∷ []) (path_with c q x nodes)) (path_with c q x rest))

  pub parent_with : (c above q : ℕ) (x : A) (f : Forest A) → parent c above (with_content q x f) ≡ parent c above f
  parent_with c above q x none = refl
  parent_with c above q x (paint id look y rest) = same_choice (eqb c id) refl (parent_with c above q x rest)
  parent_with c above q x (group id look nodes rest) = same_choice (eqb c id) refl
      (ap (λ b. cond b (parent c id (with_content q x nodes)) (parent c above (with_content q x rest))) (has_with c q x nodes)
      ∙ same_choice (has c nodes) (parent_with c id q x nodes) (parent_with c above q x rest))

  -- a parent is the group round all, or a group that is there
  pub parent_group : (q above g : ℕ) (f : Forest A) → parent q above f ≡ Some g → (g ≡ above) ⊎ (is_group g f ≡ true)
  parent_group q above g none e = cc
  parent_group q above g (paint id look x rest) e = go (λ h. parent_group q above g rest h) (eqb q id) e
    where
      go : (parent q above rest ≡ Some g → (g ≡ above) ⊎ (is_group g rest ≡ true)) → (b : Bool) → cond b (Some above) (parent q above rest) ≡ Some g → (g ≡ above) ⊎ (is_group g rest ≡ true)
      go r true e = inl (cc)
      go r false e = r e
  parent_group q above g (group id look nodes rest) e = go (λ h. parent_group q id g nodes h) (λ h. parent_group q above g rest h) (eqb q id) (has q nodes) e
    where
      go : (parent q id nodes ≡ Some g → (g ≡ id) ⊎ (is_group g nodes ≡ true)) → (parent q above rest ≡ Some g → (g ≡ above) ⊎ (is_group g rest ≡ true)) → (b t : Bool)
          → cond b (Some above) (cond t (parent q id nodes) (parent q above rest)) ≡ Some g → (g ≡ above) ⊎ ((eqb g id || (is_group g nodes || is_group g rest)) ≡ true)
      go m r true t e = inl (cc)
      go m r false true e = elim (m e) [ inl h ↦ inr (or_left (eqb g id) _ (ap (λ n. eqb n id) h ∙ equal_test id)) | inr h ↦ inr (or_right (eqb g id) _ (or_left (is_group g nodes) _ h)) ]
      go m r false false e = elim (r e) [ inl h ↦ inl h | inr h ↦ inr (or_right (eqb g id) _ (or_right (is_group g nodes) _ h)) ]

-- whether q is a paint node in the first row
abbrev pub side_paint : {A : Type 0} → ℕ → Forest A → Bool
side_paint q none = false
side_paint q (paint id look x rest) = eqb q id || side_paint q rest
side_paint q (group id look nodes rest) = side_paint q rest

module _ {A : Type 0} where
  side_paint_side : (q : ℕ) (f : Forest A) → side_paint q f ≡ true → side q f ≡ true
  side_paint_side q none e = e
  side_paint_side q (paint id look x rest) e = elim (or_cases (eqb q id) _ e) [ inl h ↦ or_left (eqb q id) _ h | inr h ↦ or_right (eqb q id) _ (side_paint_side q rest h) ]
  side_paint_side q (group id look nodes rest) e = or_right (eqb q id) _ (side_paint_side q rest e)

  side_paint_join : (q : ℕ) (a b : Forest A) → side_paint q (join a b) ≡ (side_paint q a || side_paint q b)
  side_paint_join q none b = refl
  side_paint_join q (paint id look x rest) b = ap (λ s. eqb q id || s) (side_paint_join q rest b) ∙ or_again (eqb q id) (side_paint q rest) (side_paint q b)
  side_paint_join q (group id look nodes rest) b = side_paint_join q rest b

  same_id : (q id : ℕ) (f : Forest A) → eqb q id ≡ true → has id f ≡ false → has q f ≡ false
  same_id q id f e h = let is : q ≡ id = grind (arith, nat_tests) in ap (λ n. has n f) is ∙ h

  paint_side_no_group : (q : ℕ) (f : Forest A) → Distinct f → side_paint q f ≡ true → is_group q f ≡ false
  paint_side_no_group q none d e = refl
  paint_side_no_group q (paint id look x rest) d e = elim (or_cases (eqb q id) _ e) [ inl h ↦ absent_group q rest (same_id q id rest h d.0) | inr h ↦ paint_side_no_group q rest d.1 h ]
  paint_side_no_group q (group id look nodes rest) d e =
      let there : has q rest ≡ true = side_has q rest (side_paint_side q rest e) in
      neither (eqb q id) _ (other_than q id rest d.1 there) (neither (is_group q nodes) _ (absent_group q nodes (not_both q nodes rest d.2 there)) (paint_side_no_group q rest d.4 e))

  -- a paint node in a group is no group
  pub paint_child_no_group : (g q : ℕ) (f : Forest A) → Distinct f → side_paint q (children g f) ≡ true → is_group q f ≡ false
  paint_child_no_group g q none d e = refl
  paint_child_no_group g q (paint id look x rest) d e = paint_child_no_group g q rest d.1 e
  paint_child_no_group g q (group id look nodes rest) d e = go (λ h. paint_child_no_group g q nodes d.3 h) (λ h. paint_child_no_group g q rest d.4 h) (eqb g id) e
    where
      inside : has q nodes ≡ true → is_group q nodes ≡ false → (eqb q id || (is_group q nodes || is_group q rest)) ≡ false
      inside there out = neither (eqb q id) _ (other_than q id nodes d.0 there) (neither (is_group q nodes) _ out (absent_group q rest (d.2 q there)))

      outside : has q rest ≡ true → is_group q rest ≡ false → (eqb q id || (is_group q nodes || is_group q rest)) ≡ false
      outside there out = neither (eqb q id) _ (other_than q id rest d.1 there) (neither (is_group q nodes) _ (absent_group q nodes (not_both q nodes rest d.2 there)) out)

      go : (side_paint q (children g nodes) ≡ true → is_group q nodes ≡ false) → (side_paint q (children g rest) ≡ true → is_group q rest ≡ false) → (b : Bool) → side_paint q (cond b nodes (join (children g nodes) (children g rest))) ≡ true
          → (eqb q id || (is_group q nodes || is_group q rest)) ≡ false
      go m r true e = inside (side_has q nodes (side_paint_side q nodes e)) (paint_side_no_group q nodes d.3 e)
      go m r false e = elim (or_cases (side_paint q (children g nodes)) (side_paint q (children g rest)) (sym (side_paint_join q (children g nodes) (children g rest)) ∙ e)) [
        | inl h ↦ inside (child_has g q nodes (side_paint_side q (children g nodes) h)) (m h)
        | inr h ↦ outside (child_has g q rest (side_paint_side q (children g rest) h)) (r h)
      ]

  pub paint_row_no_group : (q : ℕ) (f : Forest A) → Distinct f → side_paint q f ≡ true → is_group q f ≡ false
  paint_row_no_group q f d e = paint_side_no_group q f d e
