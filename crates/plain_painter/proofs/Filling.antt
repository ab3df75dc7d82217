-- A document after a change of its tree, and after jobs.
use Rattle.std.proofs.Common.{◌≡◌, ℕ, Bool, true, false, cond, eqb, Option, Some, None, is_some, Ok, Err, List, refl, sym, ap, ◌∙◌, arith}
use Rattle.std.specs.Option.{unwrap_or}
use Rattle.std.proofs.lemmas.Bool.Decides.{nat_tests}
use Rattle.pixel_core.specs.Rgba.{clear}
use Rattle.doc_model.specs.Layers.{Layer, plain}
use Rattle.doc_model.specs.Jobs.{apply_all}
use Rattle.doc_model.specs.Forest.{Forest, content, with_content}
use Rattle.doc_model.specs.Changes.{changed}
use Rattle.doc_model.specs.Picture.{Doc}
use Rattle.doc_model.specs.Strokes.{Jobs}
use Rattle.doc_model.specs.declared.tree.Change.{Change}
use Rattle.doc_model.specs.declared.tree.Change.TheVariants as change
use Rattle.doc_model.specs.declared.tree.TreeFault.{TreeFault}
use Rattle.machine_model.specs.Effects.{layer_in}
use Rattle.machine_model.specs.UnderWay.{jobs_only}
use Rattle.doc_model.proofs.Natural.{each_same, content_by, content_each, with_content_each, after, with_contents, changed_each}
use Rattle.plain_painter.specs.declared.layer.Step.{Step}
use Rattle.plain_painter.specs.Steps.{layer_after}
use Rattle.plain_painter.specs.Documents.{filled, with_fresh}
use Rattle.plain_painter.proofs.Layered.{Laid}

-- a tree without pixels
abbrev pub Shape : Type 0
Shape = Forest (Unit {0})

fresh_same : (c : Change) (g : ℕ → Layer) (q : ℕ) → after plain c g q ≡ with_fresh c g q
fresh_same (change.Layer id above place pixel) g q = refl
fresh_same (change.Group id above place) g q = refl
fresh_same (change.Remove id) g q = refl
fresh_same (change.Place id above place) g q = refl
fresh_same (change.Look id look) g q = refl

-- the steps after a change
abbrev pub Follow : Change → List Step → List Step → Type 0
Follow c old new = (q : ℕ) → layer_after q new ≡ with_fresh c (λ p. layer_after p old) q

pub filled_changed : (c : Change) (t new : Shape) (old steps : List Step) → changed (λ pixel. tt) c t ≡ Ok new → Follow c old steps → Ok (filled new steps) ≡ changed plain c (filled t old)
filled_changed c t new old steps e f = sym (
    changed_each plain (λ q. layer_after q old) (λ pixel. tt) c t
    ∙ ap (with_contents (after plain c (λ q. layer_after q old))) e
    ∙ ap Ok (each_same (after plain c (λ q. layer_after q old)) (λ q. layer_after q steps) new (λ q _. fresh_same c (λ p. layer_after p old) q ∙ sym (f q))))

pub filled_refused : (c : Change) (t : Shape) (old : List Step) (fault : TreeFault) → changed {A = Unit {0}} (λ pixel. tt) c t ≡ Err fault → Err fault ≡ changed plain c (filled t old)
filled_refused c t old fault e = sym (
    changed_each plain (λ q. layer_after q old) (λ pixel. tt) c t
    ∙ ap (with_contents (after plain c (λ q. layer_after q old))) e)

some_by : {A B : Type 0} (y : B) (o : Option A) → is_some (content_by y o) ≡ is_some o
some_by y None = refl
some_by y (Some x) = refl

-- whether an id is a paint layer
pub some_filled : (t : Shape) (doc : Doc) (steps : List Step) (id : ℕ) → filled t steps ≡ doc → is_some (content id t) ≡ is_some (content id doc)
some_filled t doc steps id e = sym (ap is_some (ap (content id) (sym e) ∙ content_each (λ q. layer_after q steps) id t) ∙ some_by (layer_after id steps) (content id t))

-- a paint layer's pixels
pub layer_filled : (t : Shape) (doc : Doc) (steps : List Step) (id : ℕ) → filled t steps ≡ doc → is_some (content id doc) ≡ true → layer_in id doc ≡ layer_after id steps
layer_filled t doc steps id e h = ap (λ o. unwrap_or o (plain clear)) (ap (content id) (sym e) ∙ content_each (λ q. layer_after q steps) id t) ∙ go (content id t) (some_filled t doc steps id e ∙ h)
  where
    go : (o : Option (Unit {0})) → is_some o ≡ true → unwrap_or (content_by (layer_after id steps) o) (plain clear) ≡ layer_after id steps
    go None h = cc
    go (Some u) h = refl

-- the document with more jobs on a layer
pub filled_painted : (t : Shape) (doc : Doc) (id : ℕ) (jobs : Jobs) (old new : List Step) → filled t old ≡ doc → is_some (content id doc) ≡ true → Laid id old jobs new
    → filled t new ≡ with_content id (apply_all (jobs_only jobs) (layer_in id doc)) doc
filled_painted t doc id jobs old new e h laid =
    with_content_each (λ q. layer_after q old) (λ q. layer_after q new) id (apply_all (jobs_only jobs) (layer_after id old)) t (λ q. laid q ∙ go q (eqb id q) refl)
    ∙ (λ i. with_content id (apply_all (jobs_only jobs) (sym (layer_filled t doc old id e h) i)) (e i))
  where
    go : (q : ℕ) (b : Bool) → eqb id q ≡ b → cond b (apply_all (jobs_only jobs) (layer_after q old)) (layer_after q old) ≡ cond b (apply_all (jobs_only jobs) (layer_after id old)) (layer_after q old)
    go q true t = let same : id ≡ q = grind (arith, nat_tests) in ap (λ n. apply_all (jobs_only jobs) (layer_after n old)) (sym same)
    go q false t = refl
