-- The content of a paint node, and a document with another one.
use Rattle.std.proofs.Common.{◌≡◌, ℕ, Bool, true, false, cond, Option, Some, None, refl, ap, ◌∙◌, eqb}
use Rattle.doc_model.specs.declared.tree.Look.{Look}
use Rattle.doc_model.specs.Forest.{Forest, none, paint, group, content, with_content, or_else}
use Rattle.doc_model.specs.Adjusting.{adjusted}

same_group : {A : Type 0} (id : ℕ) (look : Look) {a a' b b' : Forest A} → a ≡ a' → b ≡ b' → group id look a b ≡ group id look a' b'
same_group id look e h i = group id look (e i) (h i)

same_paint : {A : Type 0} (id : ℕ) (look : Look) {x y : A} {b b' : Forest A} → x ≡ y → b ≡ b' → paint id look x b ≡ paint id look y b'
same_paint id look e h i = paint id look (e i) (h i)

choose_again : {A : Type 0} (b : Bool) (x y z : A) → cond b x (cond b y z) ≡ cond b x z
choose_again true x y z = refl
choose_again false x y z = refl

-- the last content counts
pub with_content-with_content : {A : Type 0} (q : ℕ) (x y : A) (f : Forest A) → with_content q x (with_content q y f) ≡ with_content q x f
with_content-with_content q x y none = refl
with_content-with_content q x y (paint id look z rest) = same_paint id look (choose_again (eqb q id) x y z) (with_content-with_content q x y rest)
with_content-with_content q x y (group id look nodes rest) = same_group id look (with_content-with_content q x y nodes) (with_content-with_content q x y rest)

-- x in the place of what is there
abbrev replaced_by : {A : Type 0} → A → Option A → Option A
replaced_by x None = None
replaced_by x (Some y) = Some x

replaced_or_else : {A : Type 0} (x : A) (a b : Option A) → or_else (replaced_by x a) (replaced_by x b) ≡ replaced_by x (or_else a b)
replaced_or_else x None b = refl
replaced_or_else x (Some y) b = refl

replaced_choice : {A : Type 0} (b : Bool) (x z : A) (o p : Option A) → o ≡ replaced_by x p → cond b (Some (cond b x z)) o ≡ replaced_by x (cond b (Some z) p)
replaced_choice true x z o p e = refl
replaced_choice false x z o p e = e

pub content_replaced : {A : Type 0} (q : ℕ) (x : A) (f : Forest A) → content q (with_content q x f) ≡ replaced_by x (content q f)
content_replaced q x none = refl
content_replaced q x (paint id look z rest) = replaced_choice (eqb q id) x z _ _ (content_replaced q x rest)
content_replaced q x (group id look nodes rest) = rw (content_replaced q x nodes, content_replaced q x rest) (replaced_or_else x (content q nodes) (content q rest))

-- the content of a node that is there is the one that was set
pub content-with_content : {A : Type 0} (q : ℕ) (x y : A) (f : Forest A) → content q f ≡ Some y → content q (with_content q x f) ≡ Some x
content-with_content q x y f e = content_replaced q x f ∙ ap (replaced_by x) e

-- to change the content that was set is to set the changed one
pub adjusted-with_content : {A : Type 0} (q : ℕ) (change : A → A) (x : A) (f : Forest A) → adjusted q change (with_content q x f) ≡ with_content q (change x) f
adjusted-with_content q change x none = refl
adjusted-with_content q change x (paint id look z rest) = same_paint id look (go (eqb q id)) (adjusted-with_content q change x rest)
  where
    go : (b : Bool) → cond b (change (cond b x z)) (cond b x z) ≡ cond b (change x) z
    go true = refl
    go false = refl
adjusted-with_content q change x (group id look nodes rest) = same_group id look (adjusted-with_content q change x nodes) (adjusted-with_content q change x rest)
