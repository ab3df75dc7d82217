-- A document's stages, laid one after another, come to its picture.
use Rattle.std.proofs.Common.{◌≡◌, ℕ, zero, suc, ◌+◌, ◌<◌, ◌≤◌, Bool, true, false, cond, Option, Some, None, List, [], ◌∷◌, ◌++◌, refl, sym, ap, ◌∙◌, arith, eqb, ltb}
use Rattle.std.specs.Prelude.{fold}
use Rattle.std.specs.Option.{unwrap_or}
use Rattle.std.proofs.lemmas.Bool.Decides.{nat_tests}
use Rattle.std.proofs.lemmas.List.Sums.{fold-append}
use Rattle.pixel_core.specs.Rgba.{Rgba, clear}
use Rattle.pixel_core.specs.Compose.{compose}
use Rattle.geom_core.specs.Areas.{Point}
use Rattle.geom_core.proofs.Tests.{taken, kept}
use Rattle.doc_model.specs.declared.tree.Look.{Look}
use Rattle.doc_model.specs.Each.{each}
use Rattle.doc_model.specs.Forest.{Forest, none, paint, group, has, height, content, or_else}
use Rattle.doc_model.specs.Layers.{Layer, at, plain}
use Rattle.doc_model.specs.Laws.{IsDocument}
use Rattle.doc_model.specs.Picture.{Doc, laid, picture}
use Rattle.doc_model.proofs.Parents.{Distinct}
use Rattle.doc_model.proofs.SameContent.{content_has}
use Rattle.doc_model.proofs.Weights.{tree_distinct}
use Rattle.machine_model.specs.Effects.{layer_in}
use Rattle.tree_core.specs.declared.outline.Stage.{Stage}
use Rattle.tree_core.specs.declared.outline.Stage.TheVariants as stage
use Rattle.tree_core.specs.Outline.{outline}
use Rattle.frame_core.specs.OpenRows.{ended}
use Rattle.frame_core.specs.Plies.{then_open}
use Rattle.frame_core.specs.declared.ply.Ply.TheVariants as ply
use Rattle.desk_steps.specs.Archives.{shape}
use Rattle.filmed_caches.specs.Made.{with_stage, then_staged}

-- the contents don't count
outline_each : {A B : Type 0} (f : ℕ → A → B) (t : Forest A) → outline (each f t) ≡ outline t
outline_each f none = refl
outline_each f (paint id look x rest) = ap (λ stages. cond look.visible (stage.Layer id look ∷ stages) stages) (outline_each f rest)
outline_each f (group id look nodes rest) = λ i. cond look.visible (stage.Open ∷ (outline_each f nodes i ++ stage.Close look ∷ outline_each f rest i)) (outline_each f rest i)

pub outline_shape : (doc : Doc) → outline (shape doc) ≡ outline doc
outline_shape doc = outline_each (λ id layer. tt) doc

-- ---- how many groups are open

groups_none : (stages : List Stage) → fold then_staged None stages ≡ None
groups_none [] = refl
groups_none (stage.Layer id look ∷ stages) = groups_none stages
groups_none (stage.Open ∷ stages) = groups_none stages
groups_none (stage.Close look ∷ stages) = groups_none stages

-- where all comes to a number, so does the first stage
pub then_some : (o : Option ℕ) (stages : List Stage) → fold then_staged o stages ≡ Some 1 → (n : ℕ) × (o ≡ Some n)
then_some (Some n) stages h = (n, refl)
then_some None stages h = absurd (let e : None ≡ Some 1 = sym (groups_none stages) ∙ h in cc)

opens : (n : ℕ) → n < 17 → then_open (Some n) ply.Open ≡ Some (suc n)
opens n h = taken (ltb n 17) (Some (suc n)) None (grind (arith, nat_tests))

closes : (n : ℕ) (look : Look) → 1 ≤ n → then_open (Some (suc n)) (ply.Close look.op look.opacity) ≡ Some n
closes zero look h = absurd (omega arith)
closes (suc n) look h = refl

-- each group that begins ends, and never more than 17 are open
pub groups_closed : {A : Type 0} (f : Forest A) (n : ℕ) → 1 ≤ n → n + height f ≤ 17 → fold then_staged (Some n) (outline f) ≡ Some n
groups_closed none n some few = refl
groups_closed (paint id look x rest) n some few =
    let more : fold then_staged (Some n) (outline rest) ≡ Some n = groups_closed rest n some (omega arith) in
    elim look.visible as (λ v. fold then_staged (Some n) (cond v (stage.Layer id look ∷ outline rest) (outline rest)) ≡ Some n) [ true ↦ more | false ↦ more ]
groups_closed (group id look nodes rest) n some few =
    let more : fold then_staged (Some n) (outline rest) ≡ Some n = groups_closed rest n some (omega arith) in
    let inner : fold then_staged (Some (suc n)) (outline nodes) ≡ Some (suc n) = groups_closed nodes (suc n) (omega arith) (omega arith) in
    elim look.visible as (λ v. fold then_staged (Some n) (cond v (stage.Open ∷ (outline nodes ++ stage.Close look ∷ outline rest)) (outline rest)) ≡ Some n) [
      | true ↦ ap (λ o. fold then_staged o (outline nodes ++ stage.Close look ∷ outline rest)) (opens n (omega arith))
          ∙ fold-append then_staged (Some (suc n)) (outline nodes) (stage.Close look ∷ outline rest)
          ∙ ap (λ o. fold then_staged (then_open o (ply.Close look.op look.opacity)) (outline rest)) inner
          ∙ ap (λ o. fold then_staged o (outline rest)) (closes n look some)
          ∙ more
      | false ↦ more
    ]

-- ---- their pixels

-- the contents of paint nodes are those of the document's
abbrev pub Stands : Doc → Doc → Type 0
Stands doc f = (q : ℕ) (x : Layer) → content q f ≡ Some x → content q doc ≡ Some x

absent_content : (q : ℕ) (f : Doc) → has q f ≡ false → content q f ≡ None
absent_content q f h = go (content q f) refl
  where
    go : (o : Option Layer) → content q f ≡ o → o ≡ None
    go None e = refl
    go (Some x) e = let t : has q f ≡ true = content_has q x f e in absurd (cc)

-- a node that is there isn't one that is absent
other_id : (q id : ℕ) (f : Doc) → has id f ≡ false → has q f ≡ true → eqb q id ≡ false
other_id q id f absent there = go (eqb q id) refl
  where
    go : (b : Bool) → eqb q id ≡ b → b ≡ false
    go true e = let same : q ≡ id = grind (arith, nat_tests) in let t : has q f ≡ false = ap (λ n. has n f) same ∙ absent in cc
    go false e = refl

above_paint : (doc : Doc) (id : ℕ) (look : Look) (x : Layer) (rest : Doc) → has id rest ≡ false → Stands doc (paint id look x rest) → Stands doc rest
above_paint doc id look x rest absent so q y e = so q y (kept (eqb q id) (Some x) (content q rest) (other_id q id rest absent (content_has q y rest e)) ∙ e)

in_group : (doc : Doc) (id : ℕ) (look : Look) (nodes rest : Doc) → Stands doc (group id look nodes rest) → Stands doc nodes
in_group doc id look nodes rest so q y e = so q y (ap (λ o. or_else o (content q rest)) e)

above_group : (doc : Doc) (id : ℕ) (look : Look) (nodes rest : Doc) → ((q : ℕ) → has q nodes ≡ true → has q rest ≡ false) → Stands doc (group id look nodes rest) → Stands doc rest
above_group doc id look nodes rest apart so q y e = so q y (ap (λ o. or_else o (content q rest)) (absent_content q nodes (outside (has q nodes) refl)) ∙ e)
  where
    outside : (b : Bool) → has q nodes ≡ b → b ≡ false
    outside true h = let f : has q rest ≡ false = apart q h in let t : has q rest ≡ true = content_has q y rest e in cc
    outside false h = refl

own_layer : (doc : Doc) (id : ℕ) (look : Look) (x : Layer) (rest : Doc) → Stands doc (paint id look x rest) → layer_in id doc ≡ x
own_layer doc id look x rest so = ap (λ o. unwrap_or o (plain clear)) (so id x (taken (eqb id id) (Some x) (content id rest) (grind (arith, nat_tests))))

laid_stages : (doc : Doc) (p : Point) (f : Doc) → Distinct f → Stands doc f → (s : Rgba) (ps : List Rgba) → fold (with_stage doc p) (s ∷ ps) (outline f) ≡ laid f p s ∷ ps
laid_stages doc p none d so s ps = refl
laid_stages doc p (paint id look x rest) d so s ps =
    let more : (t : Rgba) → fold (with_stage doc p) (t ∷ ps) (outline rest) ≡ laid rest p t ∷ ps = λ t. laid_stages doc p rest d.1 (above_paint doc id look x rest d.0 so) t ps in
    elim look.visible as (λ v. fold (with_stage doc p) (s ∷ ps) (cond v (stage.Layer id look ∷ outline rest) (outline rest)) ≡ laid rest p (cond v (compose look.op (at x p) s look.opacity) s) ∷ ps) [
      | true ↦ more (compose look.op (at (layer_in id doc) p) s look.opacity) ∙ ap (λ l. laid rest p (compose look.op (at l p) s look.opacity) ∷ ps) (own_layer doc id look x rest so)
      | false ↦ more s
    ]
laid_stages doc p (group id look nodes rest) d so s ps =
    let more : (t : Rgba) → fold (with_stage doc p) (t ∷ ps) (outline rest) ≡ laid rest p t ∷ ps = λ t. laid_stages doc p rest d.4 (above_group doc id look nodes rest d.2 so) t ps in
    let inner : fold (with_stage doc p) (clear ∷ s ∷ ps) (outline nodes) ≡ laid nodes p clear ∷ s ∷ ps = laid_stages doc p nodes d.3 (in_group doc id look nodes rest so) clear (s ∷ ps) in
    elim look.visible as (λ v. fold (with_stage doc p) (s ∷ ps) (cond v (stage.Open ∷ (outline nodes ++ stage.Close look ∷ outline rest)) (outline rest)) ≡ laid rest p (cond v (compose look.op (laid nodes p clear) s look.opacity) s) ∷ ps) [
      | true ↦ fold-append (with_stage doc p) (clear ∷ s ∷ ps) (outline nodes) (stage.Close look ∷ outline rest)
          ∙ ap (λ qs. fold (with_stage doc p) (ended look.op look.opacity qs) (outline rest)) inner
          ∙ more (compose look.op (laid nodes p clear) s look.opacity)
      | false ↦ more s
    ]

-- the stages come to the picture, and the root alone is open then
pub stages_show : (doc : Doc) (p : Point) → IsDocument doc → fold (with_stage doc p) (clear ∷ []) (outline doc) ≡ picture doc p ∷ []
stages_show doc p limits = laid_stages doc p doc (tree_distinct doc limits.tree) (λ q x e. e) clear []

pub stages_close : (doc : Doc) → IsDocument doc → fold then_staged (Some 1) (outline doc) ≡ Some 1
stages_close doc limits = let low : height doc ≤ 16 = limits.low in groups_closed doc 1 (omega arith) (omega arith)
