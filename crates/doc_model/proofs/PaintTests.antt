-- A node is a paint layer where it is there and is no group.
use Rattle.std.proofs.Common.{◌≡◌, ℕ, Bool, true, false, ◌||◌, ◌&&◌, not, cond, Option, Some, None, is_some, refl, sym, ap, ◌∙◌, arith, eqb}
use Rattle.std.proofs.lemmas.Bool.Decides.{nat_tests}
use Rattle.doc_model.specs.Forest.{Forest, none, paint, group, has, is_group, content, or_else}
use Rattle.doc_model.specs.Changes.{there, takes}
use Rattle.doc_model.specs.Ids.{IsTree}
use Rattle.doc_model.proofs.Parents.{Distinct}
use Rattle.doc_model.proofs.Weights.{tree_distinct, tree_root}
use Rattle.doc_model.proofs.Paths.{group_has}
use Rattle.doc_model.proofs.SameContent.{content_has}

pub false-true : {A : Type 0} → false ≡ true → A
false-true e = cc

-- whether a node is a paint layer, by whether it is there and no group
join_tests : (hn hr gn gr cn cr : Bool) → (hn && not gn) ≡ cn → (hr && not gr) ≡ cr → (gn ≡ true → hn ≡ true) → (gr ≡ true → hr ≡ true) → (hn ≡ true → hr ≡ false) → ((hn || hr) && not (gn || gr)) ≡ (cn || cr)
join_tests true true gn gr cn cr a b c d e = false-true (sym (e refl))
join_tests true false true gr cn cr a b c d e = (λ i. a i || b i)
join_tests true false false true cn cr a b c d e = false-true (d refl)
join_tests true false false false cn cr a b c d e = (λ i. a i || b i)
join_tests false hr true gr cn cr a b c d e = false-true (c refl)
join_tests false hr false gr cn cr a b c d e = (λ i. a i || b i)

pub or_else_tests : {A : Type 0} (a b : Option A) → (is_some a || is_some b) ≡ is_some (or_else a b)
or_else_tests None b = refl
or_else_tests (Some x) b = refl

paints : {A : Type 0} (q : ℕ) (f : Forest A) → Distinct f → (has q f && not (is_group q f)) ≡ is_some (content q f)
paints q none d = refl
paints q (paint id look x rest) d = go (paints q rest d.1) (eqb q id) refl
  where
    go : (has q rest && not (is_group q rest)) ≡ is_some (content q rest) → (b : Bool) → eqb q id ≡ b → ((b || has q rest) && not (is_group q rest)) ≡ is_some (cond b (Some x) (content q rest))
    go more true e =
        let same : q ≡ id = grind (arith, nat_tests) in
        let absent : has q rest ≡ false = ap (λ p. has p rest) same ∙ d.0 in
        no_group (is_group q rest) refl absent
      where
        no_group : (b : Bool) → is_group q rest ≡ b → has q rest ≡ false → not b ≡ true
        no_group true g h = false-true (sym h ∙ group_has q rest g)
        no_group false g h = refl
    go more false e = more
paints {A = A} q (group id look nodes rest) d = go (paints q nodes d.3) (paints q rest d.4) (eqb q id) refl
  where
    no_content : (f : Forest A) → has q f ≡ false → is_some (content q f) ≡ false
    no_content f h = by (content q f) refl
      where
        by : (o : Option A) → content q f ≡ o → is_some o ≡ false
        by None e = refl
        by (Some y) e = false-true (sym h ∙ content_has q y f e)

    go : (has q nodes && not (is_group q nodes)) ≡ is_some (content q nodes) → (has q rest && not (is_group q rest)) ≡ is_some (content q rest) → (b : Bool) → eqb q id ≡ b → ((b || (has q nodes || has q rest)) && not (b || (is_group q nodes || is_group q rest))) ≡ is_some (or_else (content q nodes) (content q rest))
    go m n true e =
        let same : q ≡ id = grind (arith, nat_tests) in
        sym (sym (or_else_tests (content q nodes) (content q rest)) ∙ (λ i. no_content nodes (ap (λ p. has p nodes) same ∙ d.0) i || no_content rest (ap (λ p. has p rest) same ∙ d.1) i))
    go m n false e = join_tests (has q nodes) (has q rest) (is_group q nodes) (is_group q rest) (is_some (content q nodes)) (is_some (content q rest)) m n (group_has q nodes) (group_has q rest) (d.2 q)
        ∙ or_else_tests (content q nodes) (content q rest)

-- the same where the root counts as a group
pub paints_is : {A : Type 0} (q : ℕ) (f : Forest A) → IsTree f → (there q f && not (takes q f)) ≡ is_some (content q f)
paints_is {A = A} q f t = go (eqb q 0) refl
  where
    go : (b : Bool) → eqb q 0 ≡ b → ((b || has q f) && not (b || is_group q f)) ≡ is_some (content q f)
    go true e =
        let same : q ≡ 0 = grind (arith, nat_tests) in
        let absent : has q f ≡ false = ap (λ p. has p f) same ∙ tree_root f t in
        by (content q f) refl absent
      where
        by : (o : Option A) → content q f ≡ o → has q f ≡ false → false ≡ is_some o
        by None c h = refl
        by (Some y) c h = false-true (sym h ∙ content_has q y f c)
    go false e = paints q f (tree_distinct f t)
