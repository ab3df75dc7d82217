-- The paths of walks in a document, and the children of groups.
use Rattle.machine_model.proofs.Choices.{same_laid}
use Rattle.geom_core.proofs.Tests.{kept, or_cases, or_left, or_right}
use Rattle.std.proofs.Common.{◌≡◌, ℕ, Bool, true, false, ◌||◌, cond, List, [], ◌∷◌, ◌++◌, Some, refl, sym, ap, ◌∙◌, arith, eqb, subst, inl, inr}
use Rattle.std.specs.Ordering.{nat_cmp}
use Rattle.std.specs.FinMap.{FinMap}
use Rattle.std.specs.Option.{unwrap_or}
use Rattle.std.proofs.lemmas.Bool.Decides.{nat_tests}
use Rattle.pixel_core.specs.Rgba.{Rgba}
use Rattle.geom_core.specs.Areas.{Point}
use Rattle.doc_model.specs.declared.canvas.Walk.{Walk}
use Rattle.doc_model.specs.declared.canvas.Walk.TheVariants.{Up, All}
use Rattle.doc_model.specs.Layers.{Layer, at}
use Rattle.doc_model.specs.Forest.{none, paint, group, has, is_group, children, with_content}
use Rattle.doc_model.specs.Readers.{parent, path, order}
use Rattle.doc_model.specs.Picture.{Doc}
use Rattle.doc_model.proofs.Parents.{Distinct, side, side_has, child_has, child_parent, parent_side}
use Rattle.doc_model.proofs.Weights.{tree_distinct, tree_root}
use Rattle.doc_model.specs.Ids.{IsTree}
use Rattle.doc_model.proofs.Paths.{Orderly, KidsIn, on_append, on_order, path_self, path_groups, path_up, path_orderly, order_orderly, group_has, child_group, path_with, order_with, is_group_with, parent_with}
use Rattle.machine_model.specs.State.{Child}
use Rattle.machine_model.specs.Groups.{with_pixels, nodes_in, path_of, on, parent_of}
use Rattle.machine_model.specs.Covers.{folded}
use Rattle.machine_model.specs.Walking.{IsGroupOf}
use Rattle.machine_model.proofs.GroupChildren.{is_child}

-- the root or a group that is there
abbrev pub grouped : ℕ → Doc → Bool
grouped g doc = eqb g 0 || is_group g doc

-- the root is on every path
pub path_root : (w : Walk) (doc : Doc) → on 0 (path_of w doc) ≡ true
path_root All doc = on_append 0 (order doc) (0 ∷ []) ∙ or_right (on 0 (order doc)) _ refl
path_root (Up g) doc = go (eqb g 0)
  where
    go : (b : Bool) → on 0 (cond b (0 ∷ []) (path g doc ++ 0 ∷ [])) ≡ true
    go true = refl
    go false = on_append 0 (path g doc) (0 ∷ []) ∙ or_right (on 0 (path g doc)) _ refl

-- a group is on its own path
pub path_here : (g : ℕ) (doc : Doc) → grouped g doc ≡ true → on g (path_of (Up g) doc) ≡ true
path_here g doc h = go (eqb g 0) refl h
  where
    go : (b : Bool) → eqb g 0 ≡ b → (b || is_group g doc) ≡ true → on g (cond b (0 ∷ []) (path g doc ++ 0 ∷ [])) ≡ true
    go true e h = let is : g ≡ 0 = grind (arith, nat_tests) in rw is refl
    go false e h = on_append g (path g doc) (0 ∷ []) ∙ or_left (on g (path g doc)) _ (path_self g doc (group_has g doc h))

-- every group is on the path of all
pub path_all : (g : ℕ) (doc : Doc) → grouped g doc ≡ true → on g (path_of All doc) ≡ true
path_all g doc h = elim (or_cases (eqb g 0) (is_group g doc) h) [
  | inl e ↦ (let is : 0 ≡ g = grind (arith, nat_tests) in subst (λ n. on n (path_of All doc) ≡ true) is (path_root All doc))
  | inr e ↦ on_append g (order doc) (0 ∷ []) ∙ or_left (on g (order doc)) _ (on_order g doc ∙ e)
]

-- on the end of a path only the root stands
on_root : (g : ℕ) (doc : Doc) → on g (0 ∷ []) ≡ true → grouped g doc ≡ true
on_root g doc h = or_left (eqb g 0) _ (elim (or_cases (eqb 0 g) false h) [ inl e ↦ turned e | inr e ↦ (let t : false ≡ true = e in cc) ])
  where
    turned : eqb 0 g ≡ true → eqb g 0 ≡ true
    turned e = grind (arith, nat_tests)

-- what is on a path is a group
pub path_grouped : (w : Walk) (g : ℕ) (doc : Doc) → Distinct doc → IsGroupOf doc w → on g (path_of w doc) ≡ true → grouped g doc ≡ true
path_grouped All g doc d is h = elim (or_cases (on g (order doc)) (on g (0 ∷ [])) (sym (on_append g (order doc) (0 ∷ [])) ∙ h)) [
  | inl e ↦ or_right (eqb g 0) _ (sym (on_order g doc) ∙ e)
  | inr e ↦ on_root g doc e
]
path_grouped (Up q) g doc d is h = go (eqb q 0) is h
  where
    go : (b : Bool) → (b || is_group q doc) ≡ true → on g (cond b (0 ∷ []) (path q doc ++ 0 ∷ [])) ≡ true → grouped g doc ≡ true
    go true is h = on_root g doc h
    go false is h = elim (or_cases (on g (path q doc)) (on g (0 ∷ [])) (sym (on_append g (path q doc) (0 ∷ [])) ∙ h)) [
      | inl e ↦ or_right (eqb g 0) _ (path_groups g q doc d is e)
      | inr e ↦ on_root g doc e
    ]

-- a child of a group, the root's first
pub child_there : (c g : ℕ) (doc : Doc) → side c (nodes_in g doc) ≡ true → has c doc ≡ true
child_there c g doc h = go (eqb g 0) h
  where
    go : (b : Bool) → side c (cond b doc (children g doc)) ≡ true → has c doc ≡ true
    go true h = side_has c doc h
    go false h = child_has g c doc h

-- a child's parent
pub child_above : (c g : ℕ) (doc : Doc) → Distinct doc → side c (nodes_in g doc) ≡ true → parent c 0 doc ≡ Some g
child_above c g doc d h = go (eqb g 0) refl h
  where
    go : (b : Bool) → eqb g 0 ≡ b → side c (cond b doc (children g doc)) ≡ true → parent c 0 doc ≡ Some g
    go true e h = let is : 0 ≡ g = grind (arith, nat_tests) in parent_side c 0 doc d h ∙ ap Some is
    go false e h = child_parent g c 0 doc d h

child_grouped : (c g : ℕ) (doc : Doc) → side c (nodes_in g doc) ≡ true → grouped g doc ≡ true
child_grouped c g doc h = go (eqb g 0) refl h
  where
    go : (b : Bool) → eqb g 0 ≡ b → side c (cond b doc (children g doc)) ≡ true → (b || is_group g doc) ≡ true
    go true e h = refl
    go false e h = child_group g c doc h

not_root : (c : ℕ) (doc : Doc) → has 0 doc ≡ false → has c doc ≡ true → eqb 0 c ≡ false
not_root c doc root there = go (eqb 0 c) refl
  where
    go : (b : Bool) → eqb 0 c ≡ b → b ≡ false
    go true e = let is : 0 ≡ c = grind (arith, nat_tests) in let t : has c doc ≡ false = ap (λ n. has n doc) (sym is) ∙ root in cc
    go false e = refl

-- with a child its group is on the path
pub path_parent : (w : Walk) (c g : ℕ) (doc : Doc) → IsTree doc → side c (nodes_in g doc) ≡ true → on c (path_of w doc) ≡ true → on g (path_of w doc) ≡ true
path_parent All c g doc t child h = path_all g doc (child_grouped c g doc child)
path_parent (Up q) c g doc t child h = go (eqb q 0) h
  where
    not_end : on c (0 ∷ []) ≡ true → ⊥
    not_end e = elim (or_cases (eqb 0 c) false e) [ inl f ↦ (let no : eqb 0 c ≡ false = not_root c doc (tree_root doc t) (child_there c g doc child) in cc) | inr f ↦ (let u : false ≡ true = f in cc) ]

    go : (b : Bool) → on c (cond b (0 ∷ []) (path q doc ++ 0 ∷ [])) ≡ true → on g (cond b (0 ∷ []) (path q doc ++ 0 ∷ [])) ≡ true
    go true h = absurd (not_end h)
    go false h = elim (or_cases (on c (path q doc)) (on c (0 ∷ [])) (sym (on_append c (path q doc) (0 ∷ [])) ∙ h)) [
      | inl e ↦ path_up c g q 0 doc (0 ∷ []) (tree_distinct doc t) refl e (child_above c g doc (tree_distinct doc t) child)
      | inr e ↦ absurd (not_end e)
    ]

-- a path has no group twice, and no group before a child
pub path_orderly_of : (w : Walk) (doc : Doc) → IsTree doc → Orderly (λ g. nodes_in g doc) (path_of w doc)
path_orderly_of w doc t = by_walk w
  where
    kids : KidsIn (λ g. nodes_in g doc) doc
    kids g there = kept (eqb g 0) _ _ (turned g (not_root g doc (tree_root doc t) there))
      where
        turned : (g : ℕ) → eqb 0 g ≡ false → eqb g 0 ≡ false
        turned g e = grind (arith, nat_tests)

    clear_end : (c : ℕ) → has c doc ≡ true → on c (0 ∷ []) ≡ false
    clear_end c there = rw (not_root c doc (tree_root doc t) there) refl

    end : Orderly (λ g. nodes_in g doc) (0 ∷ [])
    end = (refl, (λ c h. clear_end c (child_there c 0 doc h)), tt)

    by_walk : (w : Walk) → Orderly (λ g. nodes_in g doc) (path_of w doc)
    by_walk All = order_orderly (λ g. nodes_in g doc) doc (0 ∷ []) (tree_distinct doc t) kids clear_end end
    by_walk (Up q) = go (eqb q 0)
      where
        go : (b : Bool) → Orderly (λ g. nodes_in g doc) (cond b (0 ∷ []) (path q doc ++ 0 ∷ []))
        go true = end
        go false = path_orderly (λ g. nodes_in g doc) q doc (0 ∷ []) (tree_distinct doc t) kids clear_end end

-- other pixels change no path
pub path_of_with : (w : Walk) (q : ℕ) (x : Layer) (doc : Doc) → path_of w (with_content q x doc) ≡ path_of w doc
path_of_with All q x doc = ap (λ gs. gs ++ 0 ∷ []) (order_with q x doc)
path_of_with (Up g) q x doc = ap (λ gs. cond (eqb g 0) (0 ∷ []) (gs ++ 0 ∷ [])) (path_with g q x doc)

-- nor what is a group
pub grouped_with : (g q : ℕ) (x : Layer) (doc : Doc) → grouped g (with_content q x doc) ≡ grouped g doc
grouped_with g q x doc = ap (λ b. eqb g 0 || b) (is_group_with g q x doc)

-- nor the group round a layer
pub parent_of_with : (c q : ℕ) (x : Layer) (doc : Doc) → parent_of c (with_content q x doc) ≡ parent_of c doc
parent_of_with c q x doc = ap (λ o. unwrap_or o 0) (parent_with c 0 q x doc)

-- the children of a group are those that stand in it
pub is_child_side : (caches : FinMap nat_cmp Layer) (c : ℕ) (f : Doc) → is_child c (with_pixels caches f) ≡ side c f
is_child_side caches c none = refl
is_child_side caches c (paint id look x rest) = ap (λ b. eqb c id || b) (is_child_side caches c rest)
is_child_side caches c (group id look nodes rest) = ap (λ b. eqb c id || b) (is_child_side caches c rest)

-- children with the same ids, looks and pixels at a point
abbrev pub SameAt : List Child → List Child → Point → Type 0
SameAt [] [] p = Unit {0}
SameAt (a ∷ xs) (b ∷ ys) p = (a.id ≡ b.id) × (a.look ≡ b.look) × (at a.pixels p ≡ at b.pixels p) × SameAt xs ys p
SameAt [] (b ∷ ys) p = ⊥
SameAt (a ∷ xs) [] p = ⊥

-- they have the same fold
pub folded_same : (xs ys : List Child) (p : Point) (b c : Rgba) → SameAt xs ys p → b ≡ c → folded xs p b ≡ folded ys p c
folded_same [] [] p b c same e = e
folded_same (x ∷ xs) (y ∷ ys) p b c same e = folded_same xs ys p _ _ same.3 (same_laid same.1 same.2 e)
folded_same [] (y ∷ ys) p b c same e = absurd same
folded_same (x ∷ xs) [] p b c same e = absurd same

-- children are the same as themselves
pub same_at_refl : (xs : List Child) (p : Point) → SameAt xs xs p
same_at_refl [] p = tt
same_at_refl (x ∷ xs) p = (refl, refl, refl, same_at_refl xs p)
