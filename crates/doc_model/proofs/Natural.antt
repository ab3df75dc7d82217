-- Changes of a tree are natural in the contents of its paint nodes.
use Rattle.std.proofs.Common.{◌≡◌, ℕ, suc, zero, ◌+◌, Bool, true, false, ◌||◌, not, cond, Option, Some, None, is_some, Result, Ok, Err, [], ◌∷◌, refl, sym, ap, ◌∙◌, arith, eqb, ltb, max, inl, inr}
use Rattle.std.proofs.lemmas.Bool.Decides.{nat_tests}
use Rattle.pixel_core.specs.Rgba.{Rgba}
use Rattle.geom_core.proofs.Tests.{none_right, true_or_false, kept, or_same, same_choice, cond_same}
use Rattle.doc_model.specs.declared.tree.Look.{Look}
use Rattle.doc_model.specs.declared.tree.Change.{Change}
use Rattle.doc_model.specs.declared.tree.Change.TheVariants as change
use Rattle.doc_model.specs.declared.tree.TreeFault.{TreeFault}
use Rattle.doc_model.specs.declared.tree.TreeFault.TheVariants.{Taken, NoNode, NotGroup, IntoItself, TreeFull, TooDeep, BadPlace}
use Rattle.doc_model.specs.Forest.{Forest, none, paint, group, count, width, height, has, is_group, join, lower, upper, inserted, within, without, only, children, depth, with_look, content, with_content, or_else}
use Rattle.doc_model.specs.Adjusting.{adjusted}
use Rattle.doc_model.specs.Each.{each}
use Rattle.doc_model.specs.Readers.{parent}
use Rattle.doc_model.specs.Changes.{changed, answer, first_of_faults, no_new, no_place, no_node, child_count, set_in, new_look}
use Rattle.doc_model.proofs.SameContent.{content_has}
use Rattle.doc_model.proofs.TreeChanges.{new_may}

pub through_cond : {A B : Type 0} (f : A → B) (b : Bool) (x y : A) → f (cond b x y) ≡ cond b (f x) (f y)
through_cond f true x y = refl
through_cond f false x y = refl

same_paint : {A : Type 0} (id : ℕ) (look : Look) {x y : A} {a b : Forest A} → x ≡ y → a ≡ b → paint id look x a ≡ paint id look y b
same_paint id look e h i = paint id look (e i) (h i)

same_group : {A : Type 0} (id : ℕ) (look : Look) {a a' b b' : Forest A} → a ≡ a' → b ≡ b' → group id look a b ≡ group id look a' b'
same_group id look e h i = group id look (e i) (h i)

some_either : {A : Type 0} (b : Bool) (x : A) (o : Option A) → is_some o ≡ true → is_some (cond b (Some x) o) ≡ true
some_either true x o e = refl
some_either false x o e = e

some_left : {A : Type 0} (a b : Option A) → is_some a ≡ true → is_some (or_else a b) ≡ true
some_left None b e = absurd (no e)
  where
    no : false ≡ true → ⊥
    no e = cc
some_left (Some x) b e = refl

some_right : {A : Type 0} (a b : Option A) → is_some b ≡ true → is_some (or_else a b) ≡ true
some_right None b e = e
some_right (Some x) b e = refl

-- contents that agree on the paint nodes' ids give one forest
pub each_same : {A B : Type 0} (g h : ℕ → B) (f : Forest A) → ((q : ℕ) → is_some (content q f) ≡ true → g q ≡ h q) → each (λ q x. g q) f ≡ each (λ q x. h q) f
each_same g h none same = refl
each_same g h (paint id look x rest) same = same_paint id look (same id (own id x (content id rest))) (each_same g h rest (λ q e. same q (some_either (eqb q id) x (content q rest) e)))
  where
    own : {A : Type 0} (q : ℕ) (x : A) (o : Option A) → is_some (cond (eqb q q) (Some x) o) ≡ true
    own q x o = let e : eqb q q ≡ true = grind (arith, nat_tests) in ap (λ b. is_some (cond b (Some x) o)) e
each_same g h (group id look nodes rest) same = same_group id look
    (each_same g h nodes (λ q e. same q (some_left (content q nodes) (content q rest) e)))
    (each_same g h rest (λ q e. same q (some_right (content q nodes) (content q rest) e)))

-- a forest without contents is its own shape
pub each_shape : {B : Type 0} (g : ℕ → B) (f : Forest (Unit {0})) → each (λ q x. tt) (each (λ q x. g q) f) ≡ f
each_shape g none = refl
each_shape g (paint id look x rest) = ap (paint id look tt) (each_shape g rest)
each_shape g (group id look nodes rest) = same_group id look (each_shape g nodes) (each_shape g rest)

-- the content of an id
abbrev pub content_by : {A B : Type 0} → B → Option A → Option B
content_by y None = None
content_by y (Some x) = Some y

by_or_else : {A B : Type 0} (y : B) (a b : Option A) → or_else (content_by y a) (content_by y b) ≡ content_by y (or_else a b)
by_or_else y None b = refl
by_or_else y (Some x) b = refl

pub content_each : {A B : Type 0} (g : ℕ → B) (q : ℕ) (f : Forest A) → content q (each (λ q x. g q) f) ≡ content_by (g q) (content q f)
content_each g q none = refl
content_each {A = A} g q (paint id look x rest) = go (eqb q id) refl (content_each g q rest)
  where
    go : (b : Bool) → eqb q id ≡ b → content q (each (λ q x. g q) rest) ≡ content_by (g q) (content q rest) → cond b (Some (g id)) (content q (each (λ q x. g q) rest)) ≡ content_by (g q) (cond b (Some x) (content q rest))
    go true t e = let same : q ≡ id = grind (arith, nat_tests) in ap (λ n. Some (g n)) (sym same)
    go false t e = e
content_each g q (group id look nodes rest) = (λ i. or_else (content_each g q nodes i) (content_each g q rest i)) ∙ by_or_else (g q) (content q nodes) (content q rest)

-- to set the content of one id is to have it there
pub with_content_each : {A B : Type 0} (g h : ℕ → B) (q : ℕ) (y : B) (f : Forest A) → ((p : ℕ) → h p ≡ cond (eqb q p) y (g p)) → each (λ p x. h p) f ≡ with_content q y (each (λ p x. g p) f)
with_content_each g h q y none e = refl
with_content_each g h q y (paint id look x rest) e = same_paint id look (e id) (with_content_each g h q y rest e)
with_content_each g h q y (group id look nodes rest) e = same_group id look (with_content_each g h q y nodes e) (with_content_each g h q y rest e)

-- to change nothing of a content leaves the forest
pub adjusted_nothing : {A : Type 0} (q : ℕ) (f : Forest A) → adjusted q (λ x. x) f ≡ f
adjusted_nothing q none = refl
adjusted_nothing {A = A} q (paint id look x rest) = same_paint id look (go (eqb q id)) (adjusted_nothing q rest)
  where
    go : (b : Bool) → cond b x x ≡ x
    go true = refl
    go false = refl
adjusted_nothing q (group id look nodes rest) = same_group id look (adjusted_nothing q nodes) (adjusted_nothing q rest)

-- where contents are changed, the same ones are there
pub some_adjusted : {A : Type 0} (p q : ℕ) (change : A → A) (f : Forest A) → is_some (content p (adjusted q change f)) ≡ is_some (content p f)
some_adjusted p q change none = refl
some_adjusted {A = A} p q change (paint id look x rest) = go (eqb p id) (some_adjusted p q change rest)
  where
    go : (b : Bool) → is_some (content p (adjusted q change rest)) ≡ is_some (content p rest) → is_some (cond b (Some (cond (eqb q id) (change x) x)) (content p (adjusted q change rest))) ≡ is_some (cond b (Some x) (content p rest))
    go true e = refl
    go false e = e
some_adjusted p q change (group id look nodes rest) = some_or_else (content p (adjusted q change nodes)) _ (content p nodes) _ (some_adjusted p q change nodes) (some_adjusted p q change rest)
  where
    no : {A : Type 0} → true ≡ false → A
    no e = absurd (never e)
      where
        never : true ≡ false → ⊥
        never e = cc

    some_or_else : {A : Type 0} (a b c d : Option A) → is_some a ≡ is_some c → is_some b ≡ is_some d → is_some (or_else a b) ≡ is_some (or_else c d)
    some_or_else None b None d e h = h
    some_or_else (Some x) b (Some y) d e h = refl
    some_or_else (Some x) b None d e h = no e
    some_or_else None b (Some y) d e h = no (sym e)

pub adjusted_each : {A B : Type 0} (g h : ℕ → B) (q : ℕ) (change : B → B) (f : Forest A) → ((p : ℕ) → h p ≡ cond (eqb q p) (change (g p)) (g p)) → each (λ p x. h p) f ≡ adjusted q change (each (λ p x. g p) f)
adjusted_each g h q change none e = refl
adjusted_each g h q change (paint id look x rest) e = same_paint id look (e id) (adjusted_each g h q change rest e)
adjusted_each g h q change (group id look nodes rest) e = same_group id look (adjusted_each g h q change nodes e) (adjusted_each g h q change rest e)

module _ {A B : Type 0} (g : ℕ → A → B) where
  each_join : (a b : Forest A) → each g (join a b) ≡ join (each g a) (each g b)
  each_join none b = refl
  each_join (paint id look x rest) b = ap (paint id look (g id x)) (each_join rest b)
  each_join (group id look nodes rest) b = ap (group id look (each g nodes)) (each_join rest b)

  each_lower : (n : ℕ) (f : Forest A) → each g (lower n f) ≡ lower n (each g f)
  each_lower zero f = refl
  each_lower (suc n) none = refl
  each_lower (suc n) (paint id look x rest) = ap (paint id look (g id x)) (each_lower n rest)
  each_lower (suc n) (group id look nodes rest) = ap (group id look (each g nodes)) (each_lower n rest)

  each_upper : (n : ℕ) (f : Forest A) → each g (upper n f) ≡ upper n (each g f)
  each_upper zero f = refl
  each_upper (suc n) none = refl
  each_upper (suc n) (paint id look x rest) = each_upper n rest
  each_upper (suc n) (group id look nodes rest) = each_upper n rest

  each_inserted : (n : ℕ) (nodes f : Forest A) → each g (inserted n nodes f) ≡ inserted n (each g nodes) (each g f)
  each_inserted n nodes f = each_join (lower n f) (join nodes (upper n f))
      ∙ (λ i. join (each_lower n f i) (each_join nodes (upper n f) i))
      ∙ ap (λ u. join (lower n (each g f)) (join (each g nodes) u)) (each_upper n f)

  each_within : (q : ℕ) (c : Forest A → Forest A) (d : Forest B → Forest B) → ((x : Forest A) → each g (c x) ≡ d (each g x)) → (f : Forest A) → each g (within q c f) ≡ within q d (each g f)
  each_within q c d e none = refl
  each_within q c d e (paint id look x rest) = ap (paint id look (g id x)) (each_within q c d e rest)
  each_within q c d e (group id look nodes rest) = same_group id look
      (through_cond (each g) (eqb q id) (c nodes) (within q c nodes) ∙ same_choice (eqb q id) (e nodes) (each_within q c d e nodes)) (each_within q c d e rest)

  each_without : (q : ℕ) (f : Forest A) → each g (without q f) ≡ without q (each g f)
  each_without q none = refl
  each_without q (paint id look x rest) = through_cond (each g) (eqb q id) (without q rest) (paint id look x (without q rest)) ∙ same_choice (eqb q id) (each_without q rest) (ap (paint id look (g id x)) (each_without q rest))
  each_without q (group id look nodes rest) = through_cond (each g) (eqb q id) (without q rest) (group id look (without q nodes) (without q rest)) ∙ same_choice (eqb q id) (each_without q rest) (same_group id look (each_without q nodes) (each_without q rest))

  each_only : (q : ℕ) (f : Forest A) → each g (only q f) ≡ only q (each g f)
  each_only q none = refl
  each_only q (paint id look x rest) = through_cond (each g) (eqb q id) (paint id look x none) (only q rest) ∙ same_choice (eqb q id) refl (each_only q rest)
  each_only q (group id look nodes rest) = through_cond (each g) (eqb q id) (group id look nodes none) (join (only q nodes) (only q rest))
      ∙ same_choice (eqb q id) refl (each_join (only q nodes) (only q rest) ∙ (λ i. join (each_only q nodes i) (each_only q rest i)))

  each_children : (q : ℕ) (f : Forest A) → each g (children q f) ≡ children q (each g f)
  each_children q none = refl
  each_children q (paint id look x rest) = each_children q rest
  each_children q (group id look nodes rest) = through_cond (each g) (eqb q id) nodes (join (children q nodes) (children q rest))
      ∙ same_choice (eqb q id) refl (each_join (children q nodes) (children q rest) ∙ (λ i. join (each_children q nodes i) (each_children q rest i)))

  each_with_look : (q : ℕ) (new : Look) (f : Forest A) → each g (with_look q new f) ≡ with_look q new (each g f)
  each_with_look q new none = refl
  each_with_look q new (paint id look x rest) = ap (paint id (cond (eqb q id) new look) (g id x)) (each_with_look q new rest)
  each_with_look q new (group id look nodes rest) = same_group id (cond (eqb q id) new look) (each_with_look q new nodes) (each_with_look q new rest)

  pub has_each : (q : ℕ) (f : Forest A) → has q (each g f) ≡ has q f
  has_each q none = refl
  has_each q (paint id look x rest) = or_same {a = eqb q id} refl (has_each q rest)
  has_each q (group id look nodes rest) = or_same {a = eqb q id} refl (or_same (has_each q nodes) (has_each q rest))

  pub is_group_each : (q : ℕ) (f : Forest A) → is_group q (each g f) ≡ is_group q f
  is_group_each q none = refl
  is_group_each q (paint id look x rest) = is_group_each q rest
  is_group_each q (group id look nodes rest) = or_same {a = eqb q id} refl (or_same (is_group_each q nodes) (is_group_each q rest))

  pub count_each : (f : Forest A) → count (each g f) ≡ count f
  count_each none = refl
  count_each (paint id look x rest) = ap (λ n. 1 + n) (count_each rest)
  count_each (group id look nodes rest) = λ i. 1 + count_each nodes i + count_each rest i

  width_each : (f : Forest A) → width (each g f) ≡ width f
  width_each none = refl
  width_each (paint id look x rest) = ap suc (width_each rest)
  width_each (group id look nodes rest) = ap suc (width_each rest)

  pub height_each : (f : Forest A) → height (each g f) ≡ height f
  height_each none = refl
  height_each (paint id look x rest) = ap (max 1) (height_each rest)
  height_each (group id look nodes rest) = λ i. max (suc (height_each nodes i)) (height_each rest i)

  depth_each : (q : ℕ) (f : Forest A) → depth q (each g f) ≡ depth q f
  depth_each q none = refl
  depth_each q (paint id look x rest) = same_choice (eqb q id) refl (depth_each q rest)
  depth_each q (group id look nodes rest) = same_choice (eqb q id) refl (cond_same (has_each q nodes) (ap suc (depth_each q nodes)) (depth_each q rest))

  pub parent_each : (q above : ℕ) (f : Forest A) → parent q above (each g f) ≡ parent q above f
  parent_each q above none = refl
  parent_each q above (paint id look x rest) = same_choice (eqb q id) refl (parent_each q above rest)
  parent_each q above (group id look nodes rest) = same_choice (eqb q id) refl (cond_same (has_each q nodes) (parent_each q id nodes) (parent_each q above rest))

  each_set_in : (q place : ℕ) (nodes f : Forest A) → each g (set_in q place nodes f) ≡ set_in q place (each g nodes) (each g f)
  each_set_in q place nodes f = through_cond (each g) (eqb q 0) (inserted place nodes f) (within q (inserted place nodes) f)
      ∙ same_choice (eqb q 0) (each_inserted place nodes f) (each_within q (inserted place nodes) (inserted place (each g nodes)) (each_inserted place nodes) f)

  child_count_each : (q : ℕ) (f : Forest A) → child_count q (each g f) ≡ child_count q f
  child_count_each q f = same_choice (eqb q 0) (width_each f) (ap width (sym (each_children q f)) ∙ width_each (children q f))

  no_new_each : (id above place : ℕ) (f : Forest A) → no_new id above place (each g f) ≡ no_new id above place f
  no_new_each id above place f = λ i. first_of_faults (
      (eqb id 0 || has_each id f i, Taken id)
      ∷ (not (eqb above 0 || has_each above f i), NoNode above)
      ∷ (not (eqb above 0 || is_group_each above f i), NotGroup above)
      ∷ (eqb (count_each f i) 256, TreeFull 256)
      ∷ (ltb 16 (depth_each above f i + 1), TooDeep 16)
      ∷ (ltb (child_count_each above f i) place, BadPlace place)
      ∷ [])

  no_place_each : (id above place : ℕ) (f : Forest A) → no_place id above place (each g f) ≡ no_place id above place f
  no_place_each id above place f = λ i. first_of_faults (
      (not (has_each id f i) || eqb id 0, NoNode id)
      ∷ (not (eqb above 0 || has_each above f i), NoNode above)
      ∷ (not (eqb above 0 || is_group_each above f i), NotGroup above)
      ∷ (has_only i, IntoItself id)
      ∷ (ltb 16 (depth_each above f i + height_only i), TooDeep 16)
      ∷ (ltb (children_without i) place, BadPlace place)
      ∷ [])
    where
      has_only : has above (only id (each g f)) ≡ has above (only id f)
      has_only = ap (has above) (sym (each_only id f)) ∙ has_each above (only id f)

      height_only : height (only id (each g f)) ≡ height (only id f)
      height_only = ap height (sym (each_only id f)) ∙ height_each (only id f)

      children_without : child_count above (without id (each g f)) ≡ child_count above (without id f)
      children_without = ap (child_count above) (sym (each_without id f)) ∙ child_count_each above (without id f)

  no_node_each : (id : ℕ) (f : Forest A) → no_node id (each g f) ≡ no_node id f
  no_node_each id f = λ i. first_of_faults ((not (has_each id f i) || eqb id 0, NoNode id) ∷ [])

-- the contents after a change: those from before it, and that of a new paint node
abbrev pub after : {B : Type 0} → (Rgba → B) → Change → (ℕ → B) → ℕ → B
after fresh (change.Layer id above place pixel) g q = cond (eqb id q) (fresh pixel) (g q)
after fresh (change.Group id above place) g q = g q
after fresh (change.Remove id) g q = g q
after fresh (change.Place id above place) g q = g q
after fresh (change.Look id look) g q = g q

-- the new forest with these contents
abbrev pub with_contents : {A B : Type 0} → (ℕ → B) → Result (Forest A) TreeFault → Result (Forest B) TreeFault
with_contents g (Ok f) = Ok (each (λ q x. g q) f)
with_contents g (Err fault) = Err fault

module _ {A B : Type 0} (fresh : Rgba → B) (g : ℕ → B) where
  answered_same : (o p : Option TreeFault) (x : Forest B) (y : Forest A) (h : ℕ → B) → o ≡ p → (p ≡ None → x ≡ each (λ q u. h q) y) → answer o x ≡ with_contents h (answer p y)
  answered_same o None x y h e same = ap (λ r. answer r x) e ∙ ap Ok (same refl)
  answered_same o (Some fault) x y h e same = ap (λ r. answer r x) e

  set_new : (id above place : ℕ) (look : Look) (pixel : Rgba) (u : A) (f : Forest A) → no_new id above place f ≡ None
      → set_in above place (paint id look (fresh pixel) none) (each (λ q x. g q) f) ≡ each (λ q x. cond (eqb id q) (fresh pixel) (g q)) (set_in above place (paint id look u none) f)
  set_new id above place look pixel u f ok =
      (λ i. set_in above place (paint id look (own i) none) (each_same g (λ q. cond (eqb id q) (fresh pixel) (g q)) f others i))
      ∙ sym (each_set_in (λ q x. cond (eqb id q) (fresh pixel) (g q)) above place (paint id look u none) f)
    where
      own : fresh pixel ≡ cond (eqb id id) (fresh pixel) (g id)
      own = let e : eqb id id ≡ true = grind (arith, nat_tests) in ap (λ b. cond b (fresh pixel) (g id)) (sym e)

      absent : has id f ≡ false
      absent = none_right (eqb id 0) (has id f) (new_may id above place f ok).0

      some_is : {A : Type 0} (o : Option A) → is_some o ≡ true → (x : A) × (o ≡ Some x)
      some_is None e = absurd (no e)
        where
          no : false ≡ true → ⊥
          no e = cc
      some_is (Some x) e = (x, refl)

      others : (q : ℕ) → is_some (content q f) ≡ true → g q ≡ cond (eqb id q) (fresh pixel) (g q)
      others q e = go (eqb id q) refl
        where
          go : (b : Bool) → eqb id q ≡ b → g q ≡ cond b (fresh pixel) (g q)
          go true t =
              let same : id ≡ q = grind (arith, nat_tests) in
              let c = some_is (content q f) e in
              let h : has q f ≡ true = content_has q c.0 f c.1 in
              let n : has q f ≡ false = ap (λ p. has p f) (sym same) ∙ absent in
              cc
          go false t = refl

  -- a change of a forest is the change of its shape, with contents
  pub changed_each : (old : Rgba → A) (c : Change) (f : Forest A) → changed fresh c (each (λ q x. g q) f) ≡ with_contents (after fresh c g) (changed old c f)
  changed_each old (change.Layer id above place pixel) f = answered_same _ _ _ _ (after fresh (change.Layer id above place pixel) g) (no_new_each (λ q x. g q) id above place f) (λ ok. set_new id above place new_look pixel (old pixel) f ok)
  changed_each old (change.Group id above place) f = answered_same _ _ _ _ (after fresh (change.Group id above place) g) (no_new_each (λ q x. g q) id above place f) (λ ok. sym (each_set_in (λ q x. g q) above place (group id new_look none none) f))
  changed_each old (change.Remove id) f = answered_same _ _ _ _ (after fresh (change.Remove id) g) (no_node_each (λ q x. g q) id f) (λ ok. sym (each_without (λ q x. g q) id f))
  changed_each old (change.Place id above place) f = answered_same _ _ _ _ (after fresh (change.Place id above place) g) (no_place_each (λ q x. g q) id above place f)
      (λ ok. sym (each_set_in (λ q x. g q) above place (only id f) (without id f) ∙ (λ i. set_in above place (each_only (λ q x. g q) id f i) (each_without (λ q x. g q) id f i))))
  changed_each old (change.Look id look) f = answered_same _ _ _ _ (after fresh (change.Look id look) g) (no_node_each (λ q x. g q) id f) (λ ok. sym (each_with_look (λ q x. g q) id look f))

-- whether the change sets in a paint node of that id
abbrev pub sets_in : Change → ℕ → Bool
sets_in (change.Layer id above place pixel) q = eqb id q
sets_in (change.Group id above place) q = false
sets_in (change.Remove id) q = false
sets_in (change.Place id above place) q = false
sets_in (change.Look id look) q = false

pub after_old : {B : Type 0} (fresh : Rgba → B) (c : Change) (g : ℕ → B) (q : ℕ) → sets_in c q ≡ false → after fresh c g q ≡ g q
after_old fresh (change.Layer id above place pixel) g q e = kept (eqb id q) _ _ e
after_old fresh (change.Group id above place) g q e = refl
after_old fresh (change.Remove id) g q e = refl
after_old fresh (change.Place id above place) g q e = refl
after_old fresh (change.Look id look) g q e = refl

-- a paint node of the new forest was there, or was set in
pub content_before : {A : Type 0} (old : Rgba → A) (c : Change) (f new : Forest A) (q : ℕ) → changed old c f ≡ Ok new → sets_in c q ≡ false → is_some (content q new) ≡ true → is_some (content q f) ≡ true
content_before {A = A} old c f new q e other is = elim (true_or_false (is_some (content q f))) [ inl t ↦ t | inr n ↦ absurd (clash n) ]
  where
    one : ℕ → Bool
    one p = false

    two : ℕ → Bool
    two p = eqb p q

    apart : is_some (content q f) ≡ false → (p : ℕ) → is_some (content p f) ≡ true → one p ≡ two p
    apart n p t = go (eqb p q) refl
      where
        go : (b : Bool) → eqb p q ≡ b → false ≡ b
        go true h = let same : p ≡ q = grind (arith, nat_tests) in let m : is_some (content p f) ≡ false = ap (λ r. is_some (content r f)) same ∙ n in cc
        go false h = refl

    new_is : (g : ℕ → Bool) → changed (λ _. false) c (each (λ q x. g q) f) ≡ Ok (each (λ q x. after (λ _. false) c g q) new)
    new_is g = changed_each (λ _. false) g old c f ∙ ap (with_contents (after (λ _. false) c g)) e

    ok_same : (x y : Forest Bool) → ◌≡◌ {A = Result (Forest Bool) TreeFault} (Ok x) (Ok y) → x ≡ y
    ok_same x y e = cc

    some_by : (o : Option A) (x y : Bool) → is_some o ≡ true → content_by x o ≡ content_by y o → x ≡ y
    some_by None x y h k = absurd (no h)
      where
        no : false ≡ true → ⊥
        no e = cc
    some_by (Some u) x y h k = cc

    own : eqb q q ≡ true
    own = grind (arith, nat_tests)

    clash : is_some (content q f) ≡ false → ⊥
    clash n =
        let fs : each (λ q x. one q) f ≡ each (λ q x. two q) f = each_same one two f (apart n) in
        let news : each (λ q x. after (λ _. false) c one q) new ≡ each (λ q x. after (λ _. false) c two q) new = ok_same _ _ (sym (new_is one) ∙ ap (changed (λ _. false) c) fs ∙ new_is two) in
        let at : content_by (after (λ _. false) c one q) (content q new) ≡ content_by (after (λ _. false) c two q) (content q new) =
        sym (content_each (after (λ _. false) c one) q new) ∙ ap (content q) news ∙ content_each (after (λ _. false) c two) q new in
        let eq : false ≡ eqb q q = sym (after_old (λ _. false) c one q other) ∙ some_by (content q new) _ _ is at ∙ after_old (λ _. false) c two q other in
        let bad : false ≡ true = eq ∙ own in
        cc
