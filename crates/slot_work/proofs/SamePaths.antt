-- A forest with other contents has the same paths.
use Rattle.std.specs.List.{IsDistinct, AllByRecursion}
use Rattle.std.specs.Prelude.{nat_eq}
use Rattle.std.proofs.lemmas.Bool.Decides.{nat_tests}
use Rattle.geom_core.proofs.Tests.{none_left, none_right}
use Rattle.std.proofs.Common.{false, arith, ◌≡◌, ℕ, cond, List, [], ◌∷◌, ◌++◌, refl, ap, ◌∙◌, eqb}
use Rattle.doc_model.specs.declared.canvas.Walk.{Walk}
use Rattle.doc_model.specs.declared.canvas.Walk.TheVariants.{Up, All}
use Rattle.doc_model.specs.Forest.{none, paint, group}
use Rattle.doc_model.specs.Readers.{path, order}
use Rattle.doc_model.specs.Ids.{IsTree}
use Rattle.doc_model.specs.Picture.{Doc}
use Rattle.doc_model.proofs.Paths.{Orderly}
use Rattle.machine_model.specs.Groups.{path_of, nodes_in, on}
use Rattle.machine_model.specs.Walking.{IsGroupOf}
use Rattle.machine_model.proofs.WalkPaths.{path_orderly_of}
use Rattle.walker_core.specs.Paths.{tree_path, IsWalkOf}
use Rattle.desk_steps.specs.Archives.{shape}
use Rattle.doc_model.proofs.SameTree.{has_each, takes_each}

path_each : (q : ℕ) (t : Doc) → path q (shape t) ≡ path q t
path_each q none = refl
path_each q (paint id look x rest) = ap (cond (eqb q id) (id ∷ [])) (path_each q rest)
path_each q (group id look nodes rest) = λ i. cond (eqb q id) (id ∷ []) (cond (has_each (λ n x. tt) q nodes i) (path_each q nodes i ++ id ∷ []) (path_each q rest i))

order_each : (t : Doc) → order (shape t) ≡ order t
order_each none = refl
order_each (paint id look x rest) = order_each rest
order_each (group id look nodes rest) = λ i. order_each nodes i ++ id ∷ order_each rest i

-- a walk's path
pub path_same : (w : Walk) (t : Doc) → tree_path w (shape t) ≡ path_of w t
path_same (Up g) t = ap (λ p. cond (eqb g 0) (0 ∷ []) (p ++ 0 ∷ [])) (path_each g t)
path_same All t = ap (λ p. p ++ 0 ∷ []) (order_each t)

pub walk_same : (w : Walk) (t : Doc) → IsGroupOf t w → IsWalkOf (shape t) w
walk_same (Up g) t is = takes_each (λ n x. tt) g t ∙ is
walk_same All t is = tt

-- a group that is none of them differs from each
apart_from : (g : ℕ) (gs : List ℕ) → on g gs ≡ false → AllByRecursion (λ h. nat_eq g h ≡ false) gs
apart_from g [] off = tt
apart_from g (h ∷ gs) off =
    let apart : eqb g h ≡ false = (let f : eqb h g ≡ false = none_left (eqb h g) _ off in grind (arith, nat_tests)) in
    (apart, apart_from g gs (none_right (eqb h g) _ off))

orderly_distinct : (kids : ℕ → Doc) (gs : List ℕ) → Orderly kids gs → IsDistinct nat_eq gs
unfolding IsDistinct
orderly_distinct kids [] o = tt
orderly_distinct kids (g ∷ gs) o = (apart_from g gs o.0, orderly_distinct kids gs o.2)

-- it has no group twice
pub path_distinct : (w : Walk) (t : Doc) → IsTree t → IsDistinct nat_eq (path_of w t)
path_distinct w t tree = orderly_distinct (λ g. nodes_in g t) (path_of w t) (path_orderly_of w t tree)
