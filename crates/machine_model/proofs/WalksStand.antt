-- Walks at work still stand where groups, paths and children are as they were.
use Rattle.machine_model.proofs.WalkPaths.{path_of_with}
use Rattle.std.proofs.Common.{◌≡◌, ℕ, false, ◌||◌, List, [], ◌∷◌, map, refl, sym, ap, ◌∙◌, eqb, subst}
use Rattle.std.specs.Ordering.{nat_cmp}
use Rattle.std.specs.FinMap.{FinMap}
use Rattle.std.specs.List.{AllByRecursion, list_any}
use Rattle.geom_core.specs.Areas.{Area}
use Rattle.doc_model.specs.declared.canvas.Walk.{Walk}
use Rattle.doc_model.specs.declared.canvas.Walk.TheVariants.{Up, All}
use Rattle.doc_model.specs.declared.canvas.Patch.{Patch}
use Rattle.doc_model.specs.Layers.{Layer}
use Rattle.doc_model.specs.Forest.{none, paint, group, with_content}
use Rattle.doc_model.specs.Picture.{Doc}
use Rattle.doc_model.proofs.Shapes.{is_group_with}
use Rattle.machine_model.specs.State.{Child, Slot, Free, Paints, Walks, State}
use Rattle.machine_model.specs.Groups.{with_pixels, nodes_in, children_of, path_of}
use Rattle.machine_model.specs.Walks.{cut_child, shots_of}
use Rattle.machine_model.specs.Walking.{IsGroupOf, SameChildren, WalkStands}
use Rattle.machine_model.proofs.GroupChildren.{nodes_with}
use Rattle.machine_model.proofs.Lists.{all_map}
use Rattle.machine_model.specs.Slots.{is_walker}

-- other caches
like_caches : (c d : FinMap nat_cmp Layer) (xs : List Child) (f : Doc) → SameChildren xs (with_pixels c f) → SameChildren xs (with_pixels d f)
like_caches c d [] none h = h
like_caches c d (x ∷ xs) none h = absurd h
like_caches c d [] (paint id look y rest) h = absurd h
like_caches c d (x ∷ xs) (paint id look y rest) h = (h.0, h.1, like_caches c d xs rest h.2)
like_caches c d [] (group id look nodes rest) h = absurd h
like_caches c d (x ∷ xs) (group id look nodes rest) h = (h.0, h.1, like_caches c d xs rest h.2)

-- other pixels too
like_with : (c d : FinMap nat_cmp Layer) (q : ℕ) (a b : Layer) (xs : List Child) (f : Doc) → SameChildren xs (with_pixels c (with_content q a f)) → SameChildren xs (with_pixels d (with_content q b f))
like_with c d q a b [] none h = h
like_with c d q a b (x ∷ xs) none h = absurd h
like_with c d q a b [] (paint id look y rest) h = absurd h
like_with c d q a b (x ∷ xs) (paint id look y rest) h = (h.0, h.1, like_with c d q a b xs rest h.2)
like_with c d q a b [] (group id look nodes rest) h = absurd h
like_with c d q a b (x ∷ xs) (group id look nodes rest) h = (h.0, h.1, like_with c d q a b xs rest h.2)

-- groups, paths and children are those that were there
pub record SameShape (s t : State) : Type 0 where
  pub groups : (w : Walk) → IsGroupOf s.present w → IsGroupOf t.present w
  pub paths : (w : Walk) → path_of w t.present ≡ path_of w s.present
  pub kids : (g : ℕ) (xs : List Child) → SameChildren xs (children_of s g) → SameChildren xs (children_of t g)

-- groups, paths and children of the same document
pub shape_same : (s t : State) → t.present ≡ s.present → SameShape s t
shape_same s t e = record {
  groups = λ w h. subst (λ d. IsGroupOf d w) (sym e) h;
  paths = λ w. ap (path_of w) e;
  kids = λ g xs h. subst (λ d. SameChildren xs (with_pixels t.caches (nodes_in g d))) (sym e) (like_caches s.caches t.caches xs (nodes_in g s.present) h);
}

pub group_with : (w : Walk) (q : ℕ) (a b : Layer) (doc : Doc) → IsGroupOf (with_content q a doc) w → IsGroupOf (with_content q b doc) w
group_with (Up g) q a b doc h = ap (λ t. eqb g 0 || t) (is_group_with g q b doc ∙ sym (is_group_with g q a doc)) ∙ h
group_with All q a b doc h = h

-- the two documents are one but for the pixels of a layer
pub shape_with : (s t : State) (q : ℕ) (a b : Layer) (doc : Doc) → s.present ≡ with_content q a doc → t.present ≡ with_content q b doc → SameShape s t
shape_with s t q a b doc e f = record {
  groups = λ w h. subst (λ d. IsGroupOf d w) (sym f) (group_with w q a b doc (subst (λ d. IsGroupOf d w) e h));
  paths = λ w. ap (path_of w) f ∙ path_of_with w q b doc ∙ sym (ap (path_of w) e ∙ path_of_with w q a doc);
  kids = λ g xs h. subst (λ d. SameChildren xs (with_pixels t.caches d)) (sym (ap (nodes_in g) f ∙ nodes_with g q b doc))
      (like_with s.caches t.caches q a b xs (nodes_in g doc) (subst (λ d. SameChildren xs (with_pixels s.caches d)) (ap (nodes_in g) e ∙ nodes_with g q a doc) h));
}

stands : (s t : State) → SameShape s t → (slot : Slot) → WalkStands s slot → WalkStands t slot
stands s t shape Free h = tt
stands s t shape (Paints w) h = tt
stands s t shape (Walks w) h = (
  shape.groups w.patch.walk h.0,
  h.1 ∙ sym (shape.paths w.patch.walk),
  all_map _ (λ (e : ℕ × List Child). SameChildren e.1 (children_of t e.0)) w.shot (λ e k. shape.kids e.0 e.1 k) h.2,
)

-- all of them
pub all_stand : (s t : State) → SameShape s t → (slots : List Slot) → AllByRecursion (WalkStands s) slots → AllByRecursion (WalkStands t) slots
all_stand s t shape slots h = all_map (WalkStands s) (WalkStands t) slots (stands s t shape) h

-- where nobody walks
pub none_stand : (s : State) (slots : List Slot) → list_any is_walker slots ≡ false → AllByRecursion (WalkStands s) slots
none_stand s [] h = tt
none_stand s (Free ∷ slots) h = (tt, none_stand s slots h)
none_stand s (Paints w ∷ slots) h = (tt, none_stand s slots h)
none_stand s (Walks w ∷ slots) h = cc

-- and the groups of the patches that wait
pub groups_stand : (s t : State) → SameShape s t → (ps : List Patch) → AllByRecursion (λ (p : Patch). IsGroupOf s.present p.walk) ps → AllByRecursion (λ (p : Patch). IsGroupOf t.present p.walk) ps
groups_stand s t shape ps h = all_map (λ (p : Patch). IsGroupOf s.present p.walk) (λ (p : Patch). IsGroupOf t.present p.walk) ps (λ p k. shape.groups p.walk k) h

-- what a new walk reads
pub shot_groups : (s : State) (rect : Area) (gs : List ℕ) → map (λ (e : ℕ × List Child). e.0) (shots_of s rect gs) ≡ gs
shot_groups s rect [] = refl
shot_groups s rect (g ∷ gs) = ap (λ hs. g ∷ hs) (shot_groups s rect gs)

cut_same : (rect : Area) (cs : List Child) → SameChildren (map (cut_child rect) cs) cs
cut_same rect [] = tt
cut_same rect (c ∷ cs) = (refl, refl, cut_same rect cs)

-- a shot has the children of now
pub shot_children : (s : State) (rect : Area) (gs : List ℕ) → AllByRecursion (λ (e : ℕ × List Child). SameChildren e.1 (children_of s e.0)) (shots_of s rect gs)
shot_children s rect [] = tt
shot_children s rect (g ∷ gs) = (cut_same rect (children_of s g), shot_children s rect gs)
