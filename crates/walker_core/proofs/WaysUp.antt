-- The groups round a node, as a path has them.
use Rattle.std.proofs.Common.{◌≡◌, ◌≢◌, ℕ, suc, ◌<◌, Bool, true, false, ◌||◌, cond, List, [], ◌∷◌, ◌++◌, length, Some, refl, sym, ap, ◌∙◌, arith, eqb, inl, inr}
use Rattle.std.proofs.lemmas.Bool.Decides.{nat_tests}
use Rattle.std.proofs.lemmas.List.{append_assoc}
use Rattle.geom_core.proofs.Tests.{kept, or_left, or_right, or_cases}
use Rattle.doc_model.specs.Forest.{Forest, has, is_group}
use Rattle.doc_model.specs.Readers.{parent, path}
use Rattle.doc_model.specs.Ids.{IsTree}
use Rattle.doc_model.proofs.Climbs.{climbs, parent_in, path_absent}
use Rattle.doc_model.proofs.Paths.{group_has}
use Rattle.doc_model.proofs.Weights.{tree_distinct, tree_root}
use Rattle.walker_core.specs.Paths.{up_from}
use Rattle.std.proofs.lemmas.Bool.{eqb-true}

-- a step up
pub one_up : {A : Type 0} (q a : ℕ) (f : Forest A) → IsTree f → q ≢ 0 → parent q 0 f ≡ Some a → up_from q f ≡ q ∷ up_from a f
one_up q a f tree other e = kept (eqb q 0) _ _ (grind (arith, nat_tests)) ∙ climbs q 0 a f (tree_distinct f tree) (tree_root f tree) e ∙ ap (λ t. q ∷ t) (go (eqb a 0) refl)
  where
    go : (b : Bool) → eqb a 0 ≡ b → path a f ≡ cond b [] (path a f)
    go true h = path_absent a f (ap (λ m. has m f) (eqb-true a 0 h) ∙ tree_root f tree)
    go false h = refl

-- it is shorter from there on
pub one_shorter : {A : Type 0} (q a : ℕ) (f : Forest A) → IsTree f → q ≢ 0 → Some a ≡ parent q 0 f → length (up_from a f) < length (up_from q f)
one_shorter q a f tree other e = let n : length (up_from q f) ≡ suc (length (up_from a f)) = ap length (one_up q a f tree other (sym e)) in omega arith

-- the root, or a node that is there
abbrev pub Stands : {A : Type 0} → ℕ → Forest A → Type 0
Stands q f = (eqb q 0 || has q f) ≡ true

pub parent_stands : {A : Type 0} (q a : ℕ) (f : Forest A) → Some a ≡ parent q 0 f → Stands a f
parent_stands q a f e = elim (parent_in q 0 a f (sym e)) [ inl h ↦ or_left (eqb a 0) _ (ap (λ m. eqb m 0) h) | inr h ↦ or_right (eqb a 0) _ h ]

pub group_stands : {A : Type 0} (q : ℕ) (f : Forest A) → (eqb q 0 || is_group q f) ≡ true → Stands q f
group_stands q f e = elim (or_cases (eqb q 0) (is_group q f) e) [ inl h ↦ or_left (eqb q 0) _ h | inr h ↦ or_right (eqb q 0) _ (group_has q f h) ]

-- so it has a parent
pub stands_there : {A : Type 0} (q : ℕ) (f : Forest A) → Stands q f → q ≢ 0 → has q f ≡ false → ⊥
stands_there q f e other away = elim (or_cases (eqb q 0) (has q f) e) [ inl h ↦ other (eqb-true q 0 h) | inr h ↦ (let t : true ≡ false = sym h ∙ away in cc) ]

-- what is left of the way
pub way_on : {A : Type 0} (q a : ℕ) (f : Forest A) (old new whole : List ℕ) → IsTree f → q ≢ 0 → Some a ≡ parent q 0 f → new ≡ old ++ q ∷ [] → old ++ up_from q f ≡ whole → new ++ up_from a f ≡ whole
way_on q a f old new whole tree other e pushed so_far = ap (λ t. t ++ up_from a f) pushed ∙ append_assoc old (q ∷ []) (up_from a f) ∙ ap (λ t. old ++ t) (sym (one_up q a f tree other (sym e))) ∙ so_far
