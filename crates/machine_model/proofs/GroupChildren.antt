-- The children of a group in a document whose layer q has other pixels.
use Rattle.geom_core.proofs.Tests.{none_left, none_right, kept, same_choice}
use Rattle.std.proofs.Common.{◌≡◌, ℕ, Bool, true, false, cond, List, ◌∷◌, refl, ap, ◌∙◌, eqb}
use Rattle.std.specs.Ordering.{nat_cmp}
use Rattle.std.specs.FinMap.{FinMap}
use Rattle.std.specs.List.{list_any}
use Rattle.doc_model.specs.Layers.{Layer}
use Rattle.doc_model.specs.Forest.{Forest, none, paint, group, join, children, with_content}
use Rattle.doc_model.specs.Picture.{Doc}
use Rattle.machine_model.specs.State.{Child}
use Rattle.machine_model.specs.Groups.{cache, with_pixels, nodes_in}

join_with : {A : Type 0} (q : ℕ) (x : A) (a b : Forest A) → join (with_content q x a) (with_content q x b) ≡ with_content q x (join a b)
join_with q x none b = refl
join_with q x (paint id look y rest) b = ap (paint id look (cond (eqb q id) x y)) (join_with q x rest b)
join_with q x (group id look nodes rest) b = ap (group id look (with_content q x nodes)) (join_with q x rest b)

chosen : {A B : Type 0} (b : Bool) (f : A → B) (x y : A) → cond b (f x) (f y) ≡ f (cond b x y)
chosen true f x y = refl
chosen false f x y = refl

-- other pixels change no group's nodes but in them
children_with : {A : Type 0} (g q : ℕ) (x : A) (f : Forest A) → children g (with_content q x f) ≡ with_content q x (children g f)
children_with g q x none = refl
children_with g q x (paint id look y rest) = children_with g q x rest
children_with g q x (group id look nodes rest) =
    same_choice (eqb g id) refl (ap (λ a. join a (children g (with_content q x rest))) (children_with g q x nodes) ∙ ap (join (with_content q x (children g nodes))) (children_with g q x rest) ∙ join_with q x (children g nodes) (children g rest))
    ∙ chosen (eqb g id) (with_content q x) nodes (join (children g nodes) (children g rest))

-- nor those of a group
pub nodes_with : (g q : ℕ) (x : Layer) (doc : Doc) → nodes_in g (with_content q x doc) ≡ with_content q x (nodes_in g doc)
nodes_with g q x doc = same_choice (eqb g 0) refl (children_with g q x doc) ∙ chosen (eqb g 0) (with_content q x) doc (children g doc)

-- whether q is one of the children
abbrev pub is_child : ℕ → List Child → Bool
is_child q cs = list_any (λ (c : Child). eqb q c.id) cs

-- where q is no child, the children are the same
with_pixels_same : (caches : FinMap nat_cmp Layer) (q : ℕ) (x : Layer) (f : Doc) → is_child q (with_pixels caches f) ≡ false → with_pixels caches (with_content q x f) ≡ with_pixels caches f
with_pixels_same caches q x none h = refl
with_pixels_same caches q x (paint id look y rest) h =
    ap (λ l. record { id = id; look = look; pixels = l } ∷ with_pixels caches (with_content q x rest)) (kept (eqb q id) x y (none_left _ _ h))
    ∙ ap (λ cs. record { id = id; look = look; pixels = y } ∷ cs) (with_pixels_same caches q x rest (none_right _ _ h))
with_pixels_same caches q x (group id look nodes rest) h = ap (λ cs. record { id = id; look = look; pixels = cache caches id } ∷ cs) (with_pixels_same caches q x rest (none_right _ _ h))

-- so the children of a group in which q isn't
pub children_same : (caches : FinMap nat_cmp Layer) (g q : ℕ) (x : Layer) (doc : Doc) → is_child q (with_pixels caches (nodes_in g doc)) ≡ false → with_pixels caches (nodes_in g (with_content q x doc)) ≡ with_pixels caches (nodes_in g doc)
children_same caches g q x doc h = ap (with_pixels caches) (nodes_with g q x doc) ∙ with_pixels_same caches q x (nodes_in g doc) h
