-- Where no id stands twice, to set the content that is there changes nothing.
use Rattle.std.proofs.Common.{◌≡◌, ℕ, Bool, true, false, ◌||◌, cond, Option, Some, None, refl, sym, ap, ◌∙◌, arith, eqb, inl, inr}
use Rattle.std.proofs.lemmas.Bool.Decides.{nat_tests}
use Rattle.geom_core.proofs.Tests.{none_left, none_right, or_left, or_right, true_or_false, kept}
use Rattle.doc_model.specs.declared.tree.Look.{Look}
use Rattle.doc_model.specs.Forest.{Forest, none, paint, group, has, content, with_content, or_else}
use Rattle.doc_model.specs.Adjusting.{adjusted}
use Rattle.doc_model.proofs.Parents.{Distinct}
use Rattle.doc_model.proofs.Contents.{adjusted-with_content}

module _ {A : Type 0} where
  same_paint : (id : ℕ) (look : Look) {x y : A} {a b : Forest A} → x ≡ y → a ≡ b → paint id look x a ≡ paint id look y b
  same_paint id look e h i = paint id look (e i) (h i)

  same_group : (id : ℕ) (look : Look) {a a' b b' : Forest A} → a ≡ a' → b ≡ b' → group id look a b ≡ group id look a' b'
  same_group id look e h i = group id look (e i) (h i)

  with_absent : (q : ℕ) (x : A) (f : Forest A) → has q f ≡ false → with_content q x f ≡ f
  with_absent q x none h = refl
  with_absent q x (paint id look y rest) h = same_paint id look (kept (eqb q id) x y (none_left _ _ h)) (with_absent q x rest (none_right (eqb q id) _ h))
  with_absent q x (group id look nodes rest) h = same_group id look (with_absent q x nodes (none_left _ _ (none_right (eqb q id) _ h))) (with_absent q x rest (none_right (has q nodes) _ (none_right (eqb q id) _ h)))

  pub content_has : (q : ℕ) (x : A) (f : Forest A) → content q f ≡ Some x → has q f ≡ true
  content_has q x none e = cc
  content_has q x (paint id look y rest) e = go (eqb q id) e (content_has q x rest)
    where
      go : (b : Bool) → cond b (Some y) (content q rest) ≡ Some x → (content q rest ≡ Some x → has q rest ≡ true) → (b || has q rest) ≡ true
      go true e more = refl
      go false e more = more e
  content_has q x (group id look nodes rest) e = or_right (eqb q id) (has q nodes || has q rest) (go (content q nodes) refl e (content_has q x nodes) (content_has q x rest))
    where
      go : (o : Option A) → content q nodes ≡ o → or_else o (content q rest) ≡ Some x → (content q nodes ≡ Some x → has q nodes ≡ true) → (content q rest ≡ Some x → has q rest ≡ true) → (has q nodes || has q rest) ≡ true
      go None f e m n = or_right _ _ (n e)
      go (Some y) f e m n = or_left _ _ (m (f ∙ e))

  pub with_same : (q : ℕ) (x : A) (f : Forest A) → Distinct f → content q f ≡ Some x → with_content q x f ≡ f
  with_same q x none d e = refl
  with_same q x (paint id look y rest) d e = go (eqb q id) refl e (with_same q x rest d.1)
    where
      go : (b : Bool) → eqb q id ≡ b → cond b (Some y) (content q rest) ≡ Some x → (content q rest ≡ Some x → with_content q x rest ≡ rest) → paint id look (cond b x y) (with_content q x rest) ≡ paint id look y rest
      go true t e more =
          let same : q ≡ id = grind (arith, nat_tests) in
          let is : y ≡ x = cc in
          same_paint id look (sym is) (with_absent q x rest (ap (λ n. has n rest) same ∙ d.0))
      go false t e more = ap (paint id look y) (more e)
  with_same q x (group id look nodes rest) d e = go (content q nodes) refl e (with_same q x nodes d.3) (with_same q x rest d.4)
    where
      go : (o : Option A) → content q nodes ≡ o → or_else o (content q rest) ≡ Some x → (content q nodes ≡ Some x → with_content q x nodes ≡ nodes) → (content q rest ≡ Some x → with_content q x rest ≡ rest)
          → group id look (with_content q x nodes) (with_content q x rest) ≡ group id look nodes rest
      go None f e m n = same_group id look (with_absent q x nodes (elim (true_or_false (has q nodes)) [ inl h ↦ (let a : has q rest ≡ false = d.2 q h in let b : has q rest ≡ true = content_has q x rest e in cc) | inr h ↦ h ])) (n e)
      go (Some y) f e m n = same_group id look (m (f ∙ e)) (with_absent q x rest (d.2 q (content_has q x nodes (f ∙ e))))

  -- to change the content that is there is to set the changed one
  pub adjusted_is : (q : ℕ) (change : A → A) (x : A) (f : Forest A) → Distinct f → content q f ≡ Some x → adjusted q change f ≡ with_content q (change x) f
  adjusted_is q change x f d e = ap (adjusted q change) (sym (with_same q x f d e)) ∙ adjusted-with_content q change x f
