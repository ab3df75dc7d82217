-- Documents that changes reach have each id once at most, and never 0, and at most 256 nodes.
use Rattle.std.proofs.Common.{◌≡◌, ◌≢◌, ℕ, ◌+◌, ◌≤◌, Bool, true, false, ◌||◌, not, cond, Option, Some, None, Result, Ok, Err, List, [], ◌∷◌, refl, ap, ◌∙◌, arith, eqb, ltb, subst}
use Rattle.std.proofs.lemmas.Bool.Decides.{nat_tests}
use Rattle.geom_core.proofs.Tests.{none_left, none_right}
use Rattle.doc_model.specs.declared.tree.Look.{Look}
use Rattle.doc_model.specs.declared.canvas.Canvas.{Canvas}
use Rattle.doc_model.specs.declared.tree.Change.{Change}
use Rattle.doc_model.specs.declared.tree.Change.TheVariants as change
use Rattle.doc_model.specs.declared.tree.TreeFault.{TreeFault}
use Rattle.doc_model.specs.declared.tree.TreeFault.TheVariants.{Taken, NoNode, NotGroup, IntoItself, TreeFull, TooDeep, BadPlace}
use Rattle.pixel_core.specs.Rgba.{Rgba}
use Rattle.doc_model.specs.Layers.{Layer, plain}
use Rattle.doc_model.specs.Forest.{Forest, none, paint, group, count, has, height, depth, inserted, without, only, with_look}
use Rattle.doc_model.specs.Laws.{EachDoc}
use Rattle.doc_model.proofs.Reached.{each_told, each_told_all}
use Rattle.doc_model.specs.Changes.{changed, answer, first_of_faults, no_new, no_place, no_node, there, takes, child_count, set_in, new_look}
use Rattle.doc_model.specs.Strokes.{Entry}
use Rattle.doc_model.specs.Meaning.{Story, start, told, told_all, meaning}
use Rattle.doc_model.proofs.Weights.{weight, mark, times, IsTree, weight_inserted, weight_within, weight_parts, weight_with_look, weight_count, tree_none, tree_with_content, none_there}

-- a new document comes where no test passed
pub answered : {A : Type 0} (o : Option TreeFault) (x y : A) → answer o x ≡ Ok y → (o ≡ None) × (x ≡ y)
answered None x y e = (refl, ok_same x y e)
  where
    ok_same : {A : Type 0} (x y : A) → ◌≡◌ {A = Result A TreeFault} (Ok x) (Ok y) → x ≡ y
    ok_same x y e = cc
answered (Some fault) x y e = absurd (not_ok fault y e)
  where
    not_ok : {A : Type 0} (f : TreeFault) (y : A) → ◌≡◌ {A = Result A TreeFault} (Err f) (Ok y) → ⊥
    not_ok f y e = cc

pub no_fault : (b : Bool) (fault : TreeFault) (rest : List (Bool × TreeFault)) → first_of_faults ((b, fault) ∷ rest) ≡ None → (b ≡ false) × (first_of_faults rest ≡ None)
no_fault true fault rest e = absurd (some_none fault e)
  where
    some_none : (f : TreeFault) → Some f ≡ None → ⊥
    some_none f e = cc
no_fault false fault rest e = (refl, e)

-- none of six tests passed
pub no_faults : (a b c d e f : Bool) (i j k l m n : TreeFault) → first_of_faults ((a, i) ∷ (b, j) ∷ (c, k) ∷ (d, l) ∷ (e, m) ∷ (f, n) ∷ []) ≡ None
    → (a ≡ false) × (b ≡ false) × (c ≡ false) × (d ≡ false) × (e ≡ false) × (f ≡ false)
no_faults a b c d e f i j k l m n h =
    let h1 = no_fault a i ((b, j) ∷ (c, k) ∷ (d, l) ∷ (e, m) ∷ (f, n) ∷ []) h in
    let h2 = no_fault b j ((c, k) ∷ (d, l) ∷ (e, m) ∷ (f, n) ∷ []) h1.1 in
    let h3 = no_fault c k ((d, l) ∷ (e, m) ∷ (f, n) ∷ []) h2.1 in
    let h4 = no_fault d l ((e, m) ∷ (f, n) ∷ []) h3.1 in
    let h5 = no_fault e m ((f, n) ∷ []) h4.1 in
    let h6 = no_fault f n [] h5.1 in
    (h1.0, h2.0, h3.0, h4.0, h5.0, h6.0)

-- a new node may come
pub new_may : {A : Type 0} (id above place : ℕ) (f : Forest A) → no_new id above place f ≡ None
    → (there id f ≡ false) × (not (there above f) ≡ false) × (not (takes above f) ≡ false) × (eqb (count f) 256 ≡ false) × (ltb 16 (depth above f + 1) ≡ false) × (ltb (child_count above f) place ≡ false)
new_may id above place f e = no_faults (there id f) (not (there above f)) (not (takes above f)) (eqb (count f) 256) (ltb 16 (depth above f + 1)) (ltb (child_count above f) place) (Taken id) (NoNode above) (NotGroup above) (TreeFull 256) (TooDeep 16) (BadPlace place) e

-- a node may be moved
pub place_may : {A : Type 0} (id above place : ℕ) (f : Forest A) → no_place id above place f ≡ None
    → ((not (has id f) || (eqb id 0)) ≡ false) × (not (there above f) ≡ false) × (not (takes above f) ≡ false) × (has above (only id f) ≡ false) × (ltb 16 (depth above f + height (only id f)) ≡ false) × (ltb (child_count above (without id f)) place ≡ false)
place_may id above place f e = no_faults (not (has id f) || (eqb id 0)) (not (there above f)) (not (takes above f)) (has above (only id f)) (ltb 16 (depth above f + height (only id f))) (ltb (child_count above (without id f)) place) (NoNode id) (NoNode above) (NotGroup above) (IntoItself id) (TooDeep 16) (BadPlace place) e

either_le : (b : Bool) (w : ℕ → ℕ) {A : Type 0} (x y : Forest A) (n : ℕ) → weight w x ≤ n → weight w y ≤ n → weight w (cond b x y) ≤ n
either_le true w x y n h k = h
either_le false w x y n h k = k

-- what is set in adds no more than it has
weight_set_in : {A : Type 0} (w : ℕ → ℕ) (g place : ℕ) (nodes f : Forest A) → times g f ≤ 1 → weight w (set_in g place nodes f) ≤ weight w nodes + weight w f
weight_set_in w g place nodes f once = either_le (eqb g 0) w _ _ _
    (let e : weight w (inserted place nodes f) ≡ weight w nodes + weight w f = weight_inserted w place nodes f in omega arith)
    (weight_within w (weight w nodes) g (inserted place nodes) f (λ x. weight_inserted w place nodes x) once)

-- one new node
new_once : (q id n : ℕ) (b : Bool) → eqb q id ≡ b → (q ≡ id → n ≡ 0) → n ≤ 1 → cond b 1 0 + n ≤ 1
new_once q id n true e gone h = let z : n ≡ 0 = gone (grind (arith, nat_tests)) in omega arith
new_once q id n false e gone h = omega arith

tree_new : {A : Type 0} (g place id : ℕ) (nodes f : Forest A) → ((w : ℕ → ℕ) → weight w nodes ≡ w id) → IsTree f → there id f ≡ false → IsTree (set_in g place nodes f)
tree_new g place id nodes f one t free = record {
  root = (let h : times 0 (set_in g place nodes f) ≤ times 0 nodes + times 0 f = weight_set_in (mark 0) g place nodes f (t.once g) in
      let m : times 0 nodes ≡ mark 0 id = one (mark 0) in
      let z : mark 0 id ≡ 0 = not_zero id (eqb id 0) refl (none_left (eqb id 0) _ free) in
      omega (arith, t.root));
  once = λ q. (let h : times q (set_in g place nodes f) ≤ times q nodes + times q f = weight_set_in (mark q) g place nodes f (t.once g) in
      let m : times q nodes ≡ mark q id = one (mark q) in
      let l : mark q id + times q f ≤ 1 = new_once q id (times q f) (eqb q id) refl (λ e. ap (λ n. times n f) e ∙ none_there id f (none_right (eqb id 0) _ free)) (t.once q) in
      omega arith);
}
  where
    not_zero : (id : ℕ) (b : Bool) → eqb id 0 ≡ b → b ≡ false → mark 0 id ≡ 0
    not_zero id b e f = let no : eqb 0 id ≡ false = grind (arith, nat_tests) in rw no refl

pub tree_without : {A : Type 0} (id : ℕ) (f : Forest A) → IsTree f → IsTree (without id f)
tree_without id f t = record {
  root = (let h : times 0 (only id f) + times 0 (without id f) ≤ times 0 f = weight_parts (mark 0) id f in omega (arith, t.root));
  once = λ q. (let h : times q (only id f) + times q (without id f) ≤ times q f = weight_parts (mark q) id f in omega (arith, t.once q));
}

tree_place : {A : Type 0} (id g place : ℕ) (f : Forest A) → IsTree f → IsTree (set_in g place (only id f) (without id f))
tree_place id g place f t =
    let less : times g (without id f) ≤ 1 = (tree_without id f t).once g in
    record {
      root = (let h : times 0 (only id f) + times 0 (without id f) ≤ times 0 f = weight_parts (mark 0) id f in
          let s : times 0 (set_in g place (only id f) (without id f)) ≤ times 0 (only id f) + times 0 (without id f) = weight_set_in (mark 0) g place (only id f) (without id f) less in
          omega (arith, t.root));
      once = λ q. (let h : times q (only id f) + times q (without id f) ≤ times q f = weight_parts (mark q) id f in
          let s : times q (set_in g place (only id f) (without id f)) ≤ times q (only id f) + times q (without id f) = weight_set_in (mark q) g place (only id f) (without id f) less in
          omega (arith, t.once q));
    }

pub tree_look : {A : Type 0} (id : ℕ) (new : Look) (f : Forest A) → IsTree f → IsTree (with_look id new f)
tree_look id new f t = record {
  root = weight_with_look (mark 0) id new f ∙ t.root;
  once = λ q. (let e : times q (with_look id new f) ≡ times q f = weight_with_look (mark q) id new f in omega (arith, t.once q));
}

-- a change of a document with each id once gives such a document
pub tree_changed : {A : Type 0} (fresh : Rgba → A) (c : Change) (f new : Forest A) → changed fresh c f ≡ Ok new → IsTree f → IsTree new
tree_changed fresh (change.Layer id above place pixel) f new e t =
    let a : (no_new id above place f ≡ None) × (set_in above place (paint id new_look (fresh pixel) none) f ≡ new) = answered _ _ _ e in
    subst IsTree a.1 (tree_new above place id (paint id new_look (fresh pixel) none) f (λ w. omega arith) t (new_may id above place f a.0).0)
tree_changed fresh (change.Group id above place) f new e t =
    let a : (no_new id above place f ≡ None) × (set_in above place (group id new_look none none) f ≡ new) = answered _ _ _ e in
    subst IsTree a.1 (tree_new above place id (group id new_look none none) f (λ w. omega arith) t (new_may id above place f a.0).0)
tree_changed fresh (change.Remove id) f new e t =
    let a : (no_node id f ≡ None) × (without id f ≡ new) = answered _ _ _ e in
    subst IsTree a.1 (tree_without id f t)
tree_changed fresh (change.Place id above place) f new e t =
    let a : (no_place id above place f ≡ None) × (set_in above place (only id f) (without id f) ≡ new) = answered _ _ _ e in
    subst IsTree a.1 (tree_place id above place f t)
tree_changed fresh (change.Look id look) f new e t =
    let a : (no_node id f ≡ None) × (with_look id look f ≡ new) = answered _ _ _ e in
    subst IsTree a.1 (tree_look id look f t)

-- all documents of a story
abbrev pub TreeStory : Story → Type 0
TreeStory s = EachDoc (IsTree {A = Layer}) s

pub tree_told : (canvas : Canvas) (s : Story) (e : Entry) → TreeStory s → TreeStory (told canvas s e)
tree_told canvas s e t = each_told (IsTree {A = Layer}) tree_with_content (tree_changed plain) canvas s e t

pub tree_told_all : (canvas : Canvas) (s : Story) (es : List Entry) → TreeStory s → TreeStory (told_all canvas s es)
tree_told_all canvas s es t = each_told_all (IsTree {A = Layer}) tree_with_content (tree_changed plain) canvas s es t

-- every document that entries make of the empty one has each id once at most, and never 0
pub tree_meaning : (canvas : Canvas) (es : List Entry) → TreeStory (meaning canvas es)
tree_meaning canvas es = tree_told_all canvas start es (record { past = tt; document = tree_none; future = tt })

-- at most 256 nodes
new_count : {A : Type 0} (id above place : ℕ) (nodes f : Forest A) → 1 ≡ weight (λ _. 1) nodes → no_new id above place f ≡ None → IsTree f → count f ≤ 256 → count (set_in above place nodes f) ≤ 256
new_count id above place nodes f one ok t few =
    let s : weight (λ _. 1) (set_in above place nodes f) ≤ weight (λ _. 1) nodes + weight (λ _. 1) f = weight_set_in (λ _. 1) above place nodes f (t.once above) in
    let other : count f ≢ 256 = unequal (count f) (new_may id above place f ok).3 in
    omega (arith, weight_count f, weight_count (set_in above place nodes f))
  where
    unequal : (n : ℕ) → eqb n 256 ≡ false → n ≢ 256
    unequal n e = grind (arith, nat_tests)

pub count_changed : {A : Type 0} (fresh : Rgba → A) (c : Change) (f new : Forest A) → changed fresh c f ≡ Ok new → IsTree f → count f ≤ 256 → count new ≤ 256
count_changed fresh (change.Layer id above place pixel) f new e t few =
    let a : (no_new id above place f ≡ None) × (set_in above place (paint id new_look (fresh pixel) none) f ≡ new) = answered _ _ _ e in
    subst (λ n. count n ≤ 256) a.1 (new_count id above place (paint id new_look (fresh pixel) none) f (weight_count (paint id new_look (fresh pixel) none)) a.0 t few)
count_changed {A = A} fresh (change.Group id above place) f new e t few =
    let a : (no_new id above place f ≡ None) × (set_in above place (group id new_look none none) f ≡ new) = answered _ _ _ e in
    subst (λ n. count n ≤ 256) a.1 (new_count id above place (group id new_look none none) f (weight_count {A = A} (group id new_look none none)) a.0 t few)
count_changed fresh (change.Remove id) f new e t few =
    let a : (no_node id f ≡ None) × (without id f ≡ new) = answered _ _ _ e in
    let h : weight (λ _. 1) (only id f) + weight (λ _. 1) (without id f) ≤ weight (λ _. 1) f = weight_parts (λ _. 1) id f in
    subst (λ n. count n ≤ 256) a.1 (omega (arith, weight_count f, weight_count (without id f)))
count_changed fresh (change.Place id above place) f new e t few =
    let a : (no_place id above place f ≡ None) × (set_in above place (only id f) (without id f) ≡ new) = answered _ _ _ e in
    let h : weight (λ _. 1) (only id f) + weight (λ _. 1) (without id f) ≤ weight (λ _. 1) f = weight_parts (λ _. 1) id f in
    let s : weight (λ _. 1) (set_in above place (only id f) (without id f)) ≤ weight (λ _. 1) (only id f) + weight (λ _. 1) (without id f) = weight_set_in (λ _. 1) above place (only id f) (without id f) ((tree_without id f t).once above) in
    subst (λ n. count n ≤ 256) a.1 (omega (arith, weight_count f, weight_count (set_in above place (only id f) (without id f))))
count_changed fresh (change.Look id look) f new e t few =
    let a : (no_node id f ≡ None) × (with_look id look f ≡ new) = answered _ _ _ e in
    subst (λ n. count n ≤ 256) a.1 (omega (arith, weight_count f, weight_count (with_look id look f), weight_with_look (λ _. 1) id look f))
