-- The groups round a node, one after another.
use Rattle.std.proofs.Common.{◌≡◌, ◌≢◌, ℕ, suc, ◌<◌, Bool, true, false, cond, List, [], ◌∷◌, ◌++◌, length, Some, refl, sym, ap, ◌∙◌, arith, eqb}
use Rattle.std.proofs.lemmas.Bool.Decides.{nat_tests}
use Rattle.std.proofs.lemmas.List.{append_assoc}
use Rattle.geom_core.proofs.Tests.{kept}
use Rattle.doc_model.specs.Forest.{has}
use Rattle.doc_model.specs.Readers.{parent, path}
use Rattle.doc_model.specs.Ids.{IsTree}
use Rattle.doc_model.proofs.Climbs.{climbs, path_absent}
use Rattle.doc_model.proofs.Weights.{tree_distinct, tree_root}
use Rattle.trace_state.specs.Trees.{Shape, up_from}
use Rattle.std.proofs.lemmas.Bool.{eqb-true}

one_up : (q a : ℕ) (f : Shape) → IsTree f → q ≢ 0 → parent q 0 f ≡ Some a → up_from q f ≡ q ∷ up_from a f
one_up q a f tree other e = kept (eqb q 0) _ _ (grind (arith, nat_tests)) ∙ climbs q 0 a f (tree_distinct f tree) (tree_root f tree) e ∙ ap (λ t. q ∷ t) (go (eqb a 0) refl)
  where
    go : (b : Bool) → eqb a 0 ≡ b → path a f ≡ cond b [] (path a f)
    go true h = path_absent a f (ap (λ m. has m f) (eqb-true a 0 h) ∙ tree_root f tree)
    go false h = refl

-- the way is shorter from the group round it on
pub one_shorter : (q a : ℕ) (f : Shape) → IsTree f → q ≢ 0 → Some a ≡ parent q 0 f → length (up_from a f) < length (up_from q f)
one_shorter q a f tree other e = let n : length (up_from q f) ≡ suc (length (up_from a f)) = ap length (one_up q a f tree other (sym e)) in omega arith

-- what is left of the way from there on
pub way_on : (q a : ℕ) (f : Shape) (old new whole : List ℕ) → IsTree f → q ≢ 0 → Some a ≡ parent q 0 f → new ≡ old ++ q ∷ [] → old ++ up_from q f ≡ whole → new ++ up_from a f ≡ whole
way_on q a f old new whole tree other e pushed so_far = ap (λ t. t ++ up_from a f) pushed ∙ append_assoc old (q ∷ []) (up_from a f) ∙ ap (λ t. old ++ t) (sym (one_up q a f tree other (sym e))) ∙ so_far

nil_right : (xs : List ℕ) → xs ++ [] ≡ xs
nil_right [] = refl
nil_right (x ∷ xs) = ap (λ t. x ∷ t) (nil_right xs)

-- no way is left from where no node is
pub way_breaks : (q : ℕ) (f : Shape) (old whole : List ℕ) → q ≢ 0 → has q f ≡ false → old ++ up_from q f ≡ whole → old ≡ whole
way_breaks q f old whole other away so_far = sym (nil_right old) ∙ ap (λ t. old ++ t) (sym (kept (eqb q 0) _ _ (grind (arith, nat_tests)) ∙ path_absent q f away)) ∙ so_far
