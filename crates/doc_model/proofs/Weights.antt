-- Sums over the nodes of a forest: how often an id stands there, and how many nodes there are.
use Rattle.std.proofs.Common.{◌≡◌, ℕ, suc, zero, ◌+◌, ◌≤◌, Bool, true, false, cond, refl, ap, ◌∙◌, arith, eqb}
use Rattle.std.proofs.lemmas.Bool.Decides.{nat_tests}
use Rattle.geom_core.proofs.Tests.{none_left, none_right, taken, kept, neither}
use Rattle.doc_model.specs.declared.tree.Look.{Look}
use Rattle.doc_model.specs.Forest.{Forest, none, paint, group, count, has, join, lower, upper, inserted, within, without, only, with_look, with_content}
use Rattle.doc_model.proofs.Parents.{Distinct}
pub use Rattle.doc_model.specs.Ids.{weight, mark, times, IsTree}

pub weight_join : {A : Type 0} (w : ℕ → ℕ) (a b : Forest A) → weight w (join a b) ≡ weight w a + weight w b
weight_join w none b = omega arith
weight_join w (paint id look x rest) b = let h : weight w (join rest b) ≡ weight w rest + weight w b = weight_join w rest b in omega arith
weight_join w (group id look nodes rest) b = let h : weight w (join rest b) ≡ weight w rest + weight w b = weight_join w rest b in omega arith

weight_split : {A : Type 0} (w : ℕ → ℕ) (n : ℕ) (f : Forest A) → weight w (lower n f) + weight w (upper n f) ≡ weight w f
weight_split w zero f = omega arith
weight_split w (suc n) none = omega arith
weight_split w (suc n) (paint id look x rest) = let h : weight w (lower n rest) + weight w (upper n rest) ≡ weight w rest = weight_split w n rest in omega arith
weight_split w (suc n) (group id look nodes rest) = let h : weight w (lower n rest) + weight w (upper n rest) ≡ weight w rest = weight_split w n rest in omega arith

pub weight_inserted : {A : Type 0} (w : ℕ → ℕ) (n : ℕ) (nodes f : Forest A) → weight w (inserted n nodes f) ≡ weight w nodes + weight w f
weight_inserted w n nodes f =
    let a : weight w (join (lower n f) (join nodes (upper n f))) ≡ weight w (lower n f) + weight w (join nodes (upper n f)) = weight_join w (lower n f) (join nodes (upper n f)) in
    let b : weight w (join nodes (upper n f)) ≡ weight w nodes + weight w (upper n f) = weight_join w nodes (upper n f) in
    let c : weight w (lower n f) + weight w (upper n f) ≡ weight w f = weight_split w n f in
    omega arith

same_group : {A : Type 0} (id : ℕ) (look : Look) {a a' b b' : Forest A} → a ≡ a' → b ≡ b' → group id look a b ≡ group id look a' b'
same_group id look e h i = group id look (e i) (h i)

mark_none : (b : Bool) (n : ℕ) → cond b 1 0 + n ≡ 0 → (b ≡ false) × (n ≡ 0)
mark_none true n e = absurd (omega arith)
mark_none false n e = (refl, omega arith)

-- an id that doesn't stand there
pub absent : {A : Type 0} (q : ℕ) (f : Forest A) → times q f ≡ 0 → has q f ≡ false
absent q none e = refl
absent q (paint id look x rest) e = let h : (eqb q id ≡ false) × (times q rest ≡ 0) = mark_none (eqb q id) (times q rest) e in neither _ _ h.0 (absent q rest h.1)
absent q (group id look nodes rest) e =
    let h : (eqb q id ≡ false) × (times q nodes + times q rest ≡ 0) = mark_none (eqb q id) (times q nodes + times q rest) e in
    neither _ _ h.0 (neither _ _ (absent q nodes (omega (arith, h.1))) (absent q rest (omega (arith, h.1))))

pub none_there : {A : Type 0} (q : ℕ) (f : Forest A) → has q f ≡ false → times q f ≡ 0
none_there q none e = refl
none_there q (paint id look x rest) e = let h : times q rest ≡ 0 = none_there q rest (none_right _ _ e) in let k : mark q id ≡ 0 = kept (eqb q id) 1 0 (none_left _ _ e) in omega arith
none_there q (group id look nodes rest) e =
    let h : times q nodes ≡ 0 = none_there q nodes (none_left _ _ (none_right _ _ e)) in
    let i : times q rest ≡ 0 = none_there q rest (none_right _ _ (none_right _ _ e)) in
    let k : mark q id ≡ 0 = kept (eqb q id) 1 0 (none_left _ _ e) in omega arith

pub there_times : {A : Type 0} (q : ℕ) (f : Forest A) → has q f ≡ true → 1 ≤ times q f
there_times q f h = go (times q f) refl
  where
    go : (n : ℕ) → times q f ≡ n → 1 ≤ n
    go zero e = absurd (let k : has q f ≡ false = absent q f e in cc)
    go (suc n) e = omega arith

-- a change of a group that isn't there
pub within_absent : {A : Type 0} (g : ℕ) (change : Forest A → Forest A) (f : Forest A) → has g f ≡ false → within g change f ≡ f
within_absent g change none h = refl
within_absent g change (paint id look x rest) h = ap (paint id look x) (within_absent g change rest (none_right _ _ h))
within_absent g change (group id look nodes rest) h =
    same_group id look (kept (eqb g id) _ _ (none_left _ _ h) ∙ within_absent g change nodes (none_left _ _ (none_right _ _ h))) (within_absent g change rest (none_right _ _ (none_right _ _ h)))

only_one : (a b c : ℕ) → a ≡ 1 → a + (b + c) ≤ 1 → c ≡ 0
only_one a b c e h = omega arith

no_third : (a b c : ℕ) → 1 ≤ b → a + (b + c) ≤ 1 → c ≡ 0
no_third a b c e h = omega arith

second : (a b c : ℕ) → a + (b + c) ≤ 1 → b ≤ 1
second a b c h = omega arith

third : (a b c : ℕ) → a + (b + c) ≤ 1 → c ≤ 1
third a b c h = omega arith

-- where the group stands once at most, what a change of its nodes adds is added once at most
pub weight_within : {A : Type 0} (w : ℕ → ℕ) (n g : ℕ) (change : Forest A → Forest A) (f : Forest A) → ((x : Forest A) → weight w (change x) ≡ n + weight w x) → times g f ≤ 1 → weight w (within g change f) ≤ n + weight w f
weight_within w n g change none adds once = omega arith
weight_within w n g change (paint id look x rest) adds once = let h : weight w (within g change rest) ≤ n + weight w rest = weight_within w n g change rest adds (omega arith) in omega arith
weight_within {A = A} w n g change (group id look nodes rest) adds once = go (λ e. weight_within w n g change nodes adds e) (λ e. weight_within w n g change rest adds e) (eqb g id) refl
  where
    at_most : mark g id + (times g nodes + times g rest) ≤ 1
    at_most = once

    go : (times g nodes ≤ 1 → weight w (within g change nodes) ≤ n + weight w nodes) → (times g rest ≤ 1 → weight w (within g change rest) ≤ n + weight w rest) → (b : Bool) → eqb g id ≡ b
        → w id + (weight w (cond b (change nodes) (within g change nodes)) + weight w (within g change rest)) ≤ n + (w id + (weight w nodes + weight w rest))
    go m r true e =
        let one : mark g id ≡ 1 = taken (eqb g id) 1 0 e in
        let none_else : times g rest ≡ 0 = only_one (mark g id) (times g nodes) (times g rest) one at_most in
        let same : weight w (within g change rest) ≡ weight w rest = ap (weight w) (within_absent g change rest (absent g rest none_else)) in
        let more : weight w (change nodes) ≡ n + weight w nodes = adds nodes in
        omega arith
    go m r false e = inner (has g nodes) refl
      where
        inner : (b : Bool) → has g nodes ≡ b → w id + (weight w (within g change nodes) + weight w (within g change rest)) ≤ n + (w id + (weight w nodes + weight w rest))
        inner false h =
            let same : weight w (within g change nodes) ≡ weight w nodes = ap (weight w) (within_absent g change nodes h) in
            let more : weight w (within g change rest) ≤ n + weight w rest = r (third (mark g id) (times g nodes) (times g rest) at_most) in
            omega arith
        inner true h =
            let none_else : times g rest ≡ 0 = no_third (mark g id) (times g nodes) (times g rest) (there_times g nodes h) at_most in
            let same : weight w (within g change rest) ≡ weight w rest = ap (weight w) (within_absent g change rest (absent g rest none_else)) in
            let more : weight w (within g change nodes) ≤ n + weight w nodes = m (second (mark g id) (times g nodes) (times g rest) at_most) in
            omega arith

-- the node and what is left
pub weight_parts : {A : Type 0} (w : ℕ → ℕ) (g : ℕ) (f : Forest A) → weight w (only g f) + weight w (without g f) ≤ weight w f
weight_parts w g none = omega arith
weight_parts {A = A} w g (paint id look x rest) = go (weight_parts w g rest) (eqb g id)
  where
    go : weight w (only g rest) + weight w (without g rest) ≤ weight w rest → (b : Bool) → weight w (cond b (paint id look x none) (only g rest)) + weight w (cond b (without g rest) (paint id look x (without g rest))) ≤ w id + weight w rest
    go h true = omega arith
    go h false = omega arith
weight_parts {A = A} w g (group id look nodes rest) = go (weight_parts w g nodes) (weight_parts w g rest) (eqb g id)
  where
    go : weight w (only g nodes) + weight w (without g nodes) ≤ weight w nodes → weight w (only g rest) + weight w (without g rest) ≤ weight w rest → (b : Bool)
        → weight w (cond b (group id look nodes none) (join (only g nodes) (only g rest))) + weight w (cond b (without g rest) (group id look (without g nodes) (without g rest))) ≤ w id + (weight w nodes + weight w rest)
    go m r true = omega arith
    go m r false = let j : weight w (join (only g nodes) (only g rest)) ≡ weight w (only g nodes) + weight w (only g rest) = weight_join w (only g nodes) (only g rest) in omega arith

pub weight_with_look : {A : Type 0} (w : ℕ → ℕ) (g : ℕ) (new : Look) (f : Forest A) → weight w (with_look g new f) ≡ weight w f
weight_with_look w g new none = refl
weight_with_look w g new (paint id look x rest) = ap (λ n. w id + n) (weight_with_look w g new rest)
weight_with_look w g new (group id look nodes rest) = let a : weight w (with_look g new nodes) ≡ weight w nodes = weight_with_look w g new nodes in let b : weight w (with_look g new rest) ≡ weight w rest = weight_with_look w g new rest in omega arith

pub weight_with_content : {A : Type 0} (w : ℕ → ℕ) (g : ℕ) (new : A) (f : Forest A) → weight w (with_content g new f) ≡ weight w f
weight_with_content w g new none = refl
weight_with_content w g new (paint id look x rest) = ap (λ n. w id + n) (weight_with_content w g new rest)
weight_with_content w g new (group id look nodes rest) = let a : weight w (with_content g new nodes) ≡ weight w nodes = weight_with_content w g new nodes in let b : weight w (with_content g new rest) ≡ weight w rest = weight_with_content w g new rest in omega arith

pub weight_count : {A : Type 0} (f : Forest A) → count f ≡ weight (λ _. 1) f
weight_count none = refl
weight_count (paint id look x rest) = let a : count rest ≡ weight (λ _. 1) rest = weight_count rest in omega arith
weight_count (group id look nodes rest) = let a : count nodes ≡ weight (λ _. 1) nodes = weight_count nodes in let b : count rest ≡ weight (λ _. 1) rest = weight_count rest in omega arith

mark_same : (q : ℕ) → mark q q ≡ 1
mark_same q = taken (eqb q q) 1 0 (grind (arith, nat_tests))

pub once_distinct : {A : Type 0} (f : Forest A) → ((q : ℕ) → times q f ≤ 1) → Distinct f
once_distinct none once = tt
once_distinct (paint id look x rest) once =
    let h : mark id id + times id rest ≤ 1 = once id in
    let one : mark id id ≡ 1 = mark_same id in
    (absent id rest (omega arith), once_distinct rest (λ q. let k : mark q id + times q rest ≤ 1 = once q in omega arith))
once_distinct (group id look nodes rest) once =
    let h : mark id id + (times id nodes + times id rest) ≤ 1 = once id in
    let one : mark id id ≡ 1 = mark_same id in (
      absent id nodes (omega arith),
      absent id rest (omega arith),
      (λ q t. let k : mark q id + (times q nodes + times q rest) ≤ 1 = once q in let some : 1 ≤ times q nodes = there_times q nodes t in absent q rest (omega arith)),
      once_distinct nodes (λ q. let k : mark q id + (times q nodes + times q rest) ≤ 1 = once q in omega arith),
      once_distinct rest (λ q. let k : mark q id + (times q nodes + times q rest) ≤ 1 = once q in omega arith),
    )

pub tree_distinct : {A : Type 0} (f : Forest A) → IsTree f → Distinct f
tree_distinct f t = once_distinct f t.once

pub tree_root : {A : Type 0} (f : Forest A) → IsTree f → has 0 f ≡ false
tree_root f t = absent 0 f t.root

pub tree_none : {A : Type 0} → IsTree {A = A} none
tree_none = record { root = refl; once = λ q. omega arith }

pub tree_with_content : {A : Type 0} (g : ℕ) (new : A) (f : Forest A) → IsTree f → IsTree (with_content g new f)
tree_with_content g new f t = record {
  root = weight_with_content (mark 0) g new f ∙ t.root;
  once = λ q. let e : times q (with_content g new f) ≡ times q f = weight_with_content (mark q) g new f in let h : times q f ≤ 1 = t.once q in omega arith;
}
