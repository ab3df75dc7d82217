-- What is asked of a document is asked of its tree.
use Rattle.std.proofs.Common.{◌≡◌, ℕ, Bool, true, false, cond, Option, Some, None, is_some, Result, Ok, Err, [], ◌∷◌, ◌++◌, refl, ap, ◌∙◌, eqb}
use Rattle.std.specs.Option.{unwrap_or}
use Rattle.doc_model.specs.declared.canvas.Walk.{Walk}
use Rattle.doc_model.specs.declared.canvas.Walk.TheVariants.{Up, All}
use Rattle.doc_model.specs.declared.tree.Change.{Change}
use Rattle.doc_model.specs.declared.tree.TreeFault.{TreeFault}
use Rattle.doc_model.specs.Layers.{Layer, plain}
use Rattle.doc_model.specs.Forest.{none, paint, group, or_else}
use Rattle.doc_model.specs.Adjusting.{adjusted}
use Rattle.doc_model.specs.Readers.{path, order}
use Rattle.doc_model.specs.Changes.{changed}
use Rattle.doc_model.specs.Picture.{Doc}
use Rattle.machine_model.specs.Groups.{path_of, parent_of}
use Rattle.machine_model.specs.Guards.{is_paint}
use Rattle.doc_model.proofs.Natural.{has_each, parent_each, changed_each, with_contents, after}
use Rattle.trace_state.specs.Trees.{Shape, paints, group_of, tree_path}
use Rattle.trace_core.specs.Outline.{shape}
use Rattle.geom_core.proofs.Tests.{cond_same}

some_cond : {A B : Type 0} (b : Bool) (x : A) (y : B) (o : Option A) (p : Option B) → is_some o ≡ is_some p → is_some (cond b (Some x) o) ≡ is_some (cond b (Some y) p)
some_cond true x y o p e = refl
some_cond false x y o p e = e

some_or : {A B : Type 0} (a b : Option A) (c d : Option B) → is_some a ≡ is_some c → is_some b ≡ is_some d → is_some (or_else a b) ≡ is_some (or_else c d)
some_or None b None d e f = f
some_or None b (Some y) d e f = cc
some_or (Some x) b None d e f = cc
some_or (Some x) b (Some y) d e f = refl

pub paints_shape : (q : ℕ) (f : Doc) → paints q (shape f) ≡ is_paint q f
paints_shape q none = refl
paints_shape q (paint id look x rest) = some_cond (eqb q id) tt x _ _ (paints_shape q rest)
paints_shape q (group id look nodes rest) = some_or _ _ _ _ (paints_shape q nodes) (paints_shape q rest)

pub group_shape : (q : ℕ) (f : Doc) → group_of q (shape f) ≡ parent_of q f
group_shape q f = λ i. unwrap_or (parent_each (λ id layer. tt) q 0 f i) 0

path_shape : (q : ℕ) (f : Doc) → path q (shape f) ≡ path q f
path_shape q none = refl
path_shape q (paint id look x rest) = cond_same {b = eqb q id} refl refl (path_shape q rest)
path_shape q (group id look nodes rest) = cond_same {b = eqb q id} refl refl (cond_same (has_each (λ id layer. tt) q nodes) (λ i. path_shape q nodes i ++ id ∷ []) (path_shape q rest))

order_shape : (f : Doc) → order (shape f) ≡ order f
order_shape none = refl
order_shape (paint id look x rest) = order_shape rest
order_shape (group id look nodes rest) = λ i. order_shape nodes i ++ (id ∷ order_shape rest i)

pub walk_shape : (w : Walk) (f : Doc) → tree_path w (shape f) ≡ path_of w f
walk_shape (Up g) f = λ i. cond (eqb g 0) (0 ∷ []) (path_shape g f i ++ 0 ∷ [])
walk_shape All f = λ i. order_shape f i ++ 0 ∷ []

pub adjusted_shape : (q : ℕ) (change : Layer → Layer) (f : Doc) → shape (adjusted q change f) ≡ shape f
adjusted_shape q change none = refl
adjusted_shape q change (paint id look x rest) = ap (paint id look tt) (adjusted_shape q change rest)
adjusted_shape q change (group id look nodes rest) = λ i. group id look (adjusted_shape q change nodes i) (adjusted_shape q change rest i)

-- the tree of what a change gives
abbrev pub shape_result : Result Doc TreeFault → Result Shape TreeFault
shape_result (Ok f) = Ok (shape f)
shape_result (Err fault) = Err fault

pub changed_shape : (c : Change) (f : Doc) → changed (λ _. tt) c (shape f) ≡ shape_result (changed plain c f)
changed_shape c f = changed_each (λ _. tt) (λ _. tt) plain c f ∙ go (changed plain c f)
  where
    go : (r : Result Doc TreeFault) → with_contents (after (λ _. tt) c (λ _. tt)) r ≡ shape_result r
    go (Ok f) = refl
    go (Err fault) = refl
