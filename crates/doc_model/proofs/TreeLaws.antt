-- A new layer that is removed leaves the document as it was.
use Rattle.std.proofs.Common.{◌≡◌, ℕ, suc, zero, Bool, true, false, cond, refl, ap, ◌∙◌, arith, eqb}
use Rattle.std.proofs.lemmas.Bool.Decides.{nat_tests}
use Rattle.geom_core.proofs.Tests.{none_left, none_right, taken, kept, equal_test}
use Rattle.doc_model.specs.declared.tree.Look.{Look}
use Rattle.doc_model.specs.Forest.{Forest, none, paint, group, has, inserted, within, without}
use Rattle.doc_model.specs.Changes.{set_in}

same_group : {A : Type 0} (id : ℕ) (look : Look) {a a' b b' : Forest A} → a ≡ a' → b ≡ b' → group id look a b ≡ group id look a' b'
same_group id look e h i = group id look (e i) (h i)

-- nothing goes where the id isn't
pub without_none : {A : Type 0} (q : ℕ) (f : Forest A) → has q f ≡ false → without q f ≡ f
without_none q none h = refl
without_none q (paint id look x rest) h = kept (eqb q id) _ _ (none_left _ _ h) ∙ ap (paint id look x) (without_none q rest (none_right _ _ h))
without_none q (group id look nodes rest) h = kept (eqb q id) _ _ (none_left _ _ h)
    ∙ same_group id look (without_none q nodes (none_left _ _ (none_right _ _ h))) (without_none q rest (none_right _ _ (none_right _ _ h)))

-- what was inserted goes
pub without-inserted : {A : Type 0} (q place : ℕ) (look : Look) (x : A) (f : Forest A) → has q f ≡ false → without q (inserted place (paint q look x none) f) ≡ f
without-inserted q zero look x f h = taken (eqb q q) _ _ (equal_test q) ∙ without_none q f h
without-inserted q (suc n) look x none h = taken (eqb q q) _ _ (equal_test q)
without-inserted q (suc n) look x (paint id l y rest) h = kept (eqb q id) _ _ (none_left _ _ h) ∙ ap (paint id l y) (without-inserted q n look x rest (none_right _ _ h))
without-inserted q (suc n) look x (group id l nodes rest) h = kept (eqb q id) _ _ (none_left _ _ h)
    ∙ same_group id l (without_none q nodes (none_left _ _ (none_right _ _ h))) (without-inserted q n look x rest (none_right _ _ (none_right _ _ h)))

chosen : {A : Type 0} (b : Bool) (q : ℕ) (a c d : Forest A) → without q a ≡ d → without q c ≡ d → without q (cond b a c) ≡ d
chosen true q a c d e h = e
chosen false q a c d e h = h

without-within : {A : Type 0} (q above place : ℕ) (look : Look) (x : A) (f : Forest A) → has q f ≡ false → without q (within above (inserted place (paint q look x none)) f) ≡ f
without-within q above place look x none h = refl
without-within q above place look x (paint id l y rest) h = kept (eqb q id) _ _ (none_left _ _ h) ∙ ap (paint id l y) (without-within q above place look x rest (none_right _ _ h))
without-within q above place look x (group id l nodes rest) h = kept (eqb q id) _ _ (none_left _ _ h)
    ∙ same_group id l
    (chosen (eqb above id) q _ _ nodes (without-inserted q place look x nodes (none_left _ _ (none_right _ _ h))) (without-within q above place look x nodes (none_left _ _ (none_right _ _ h))))
    (without-within q above place look x rest (none_right _ _ (none_right _ _ h)))

-- a new layer that is removed leaves the document as it was
pub without-set_in : {A : Type 0} (q above place : ℕ) (look : Look) (x : A) (f : Forest A) → has q f ≡ false → without q (set_in above place (paint q look x none) f) ≡ f
without-set_in q above place look x f h = chosen (eqb above 0) q _ _ f (without-inserted q place look x f h) (without-within q above place look x f h)
