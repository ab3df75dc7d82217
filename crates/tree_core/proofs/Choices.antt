-- Small facts on tests.
use Rattle.std.proofs.Common.{◌≡◌, ℕ, Bool, Option, Some, None, IsNone, ◌↔◌, is_some, sym, ◌∙◌, rules, true, false, ◌||◌, not, Ok, Err, Result, OnOk, OnErr, IfErr, ap, subst, refl, arith, eqb}
use Rattle.std.proofs.lemmas.Bool.Decides.{nat_tests}
use Rattle.doc_model.specs.Forest.{has}
use Rattle.doc_model.specs.Changes.{answer, no_node}
use Rattle.doc_model.specs.Ids.{IsTree}
use Rattle.doc_model.specs.declared.tree.TreeFault.TheVariants.{NoNode}
use Rattle.doc_model.proofs.Weights.{tree_root}
use Rattle.tree_core.specs.Nodes.{Tree}

-- a test for equality, turned round
pub turned : (a b : ℕ) → eqb a b ≡ eqb b a
turned a b = grind (arith, nat_tests)

-- where the node is there, the change is made
pub ok_answer : (q : ℕ) (t new : Tree) → (not (has q t) || eqb q 0) ≡ false → answer (no_node q t) new ≡ Ok new
ok_answer q t new e = rw e refl

-- an answer that is there exactly where the test holds is None exactly where it fails
pub none_only : {X : Type 0} (o : Option X) (b : Bool) → is_some o ≡ b → IsNone o ↔ (b ≡ false)
none_only None b e = (λ _. sym e, λ _. search rules)
none_only (Some x) b e = (λ h. absurd (search rules), λ h. absurd (let t : true ≡ false = e ∙ h in cc))

-- a node that is there isn't the root
pub there_test : (q : ℕ) (t : Tree) → IsTree t → has q t ≡ true → (not (has q t) || eqb q 0) ≡ false
there_test q t k h = ap (λ b. not b || eqb q 0) h ∙ go (eqb q 0) refl
  where
    go : (b : Bool) → eqb q 0 ≡ b → b ≡ false
    go true e = let is : q ≡ 0 = grind (arith, nat_tests) in sym h ∙ ap (λ n. has n t) is ∙ tree_root t k
    go false e = refl

-- where the node is lost, the change is refused
pub err_answer : (q : ℕ) (t new : Tree) → has q t ≡ false → answer (no_node q t) new ≡ Err (NoNode q)
err_answer q t new e = rw e refl

-- clauses of a result that is known
pub ok_here : {X E : Type 0} (r : Result X E) (P : Type 0) (x : X) → r ≡ Ok x → P → OnOk r P
ok_here r P x e p = subst (λ s. OnOk s P) (sym e) p

-- of a fault
pub ok_there : {X E : Type 0} (r : Result X E) (P : Type 0) (x : E) → r ≡ Err x → OnOk r P
ok_there r P x e = subst (λ s. OnOk s P) (sym e) tt

-- where a fault is told
pub err_here : {X E : Type 0} (r : Result X E) (P : E → Type 0) (x : E) → r ≡ Err x → P x → IfErr r P
err_here r P x e p = subst (λ s. IfErr s P) (sym e) p

-- where none is
pub err_there : {X E : Type 0} (r : Result X E) (P : E → Type 0) (x : X) → r ≡ Ok x → IfErr r P
err_there r P x e = subst (λ s. IfErr s P) (sym e) tt

-- what a fault leaves
pub same_here : {X E : Type 0} (r : Result X E) (P : Type 0) (x : E) → r ≡ Err x → P → OnErr r P
same_here r P x e p = subst (λ s. OnErr s P) (sym e) p

-- where there is none
pub same_there : {X E : Type 0} (r : Result X E) (P : Type 0) (x : X) → r ≡ Ok x → OnErr r P
same_there r P x e = subst (λ s. OnErr s P) (sym e) tt
