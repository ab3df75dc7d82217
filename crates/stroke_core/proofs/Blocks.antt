-- Blocks of jobs, and a bound round each.
use Rattle.std.proofs.Common.{◌≡◌, ◌≢◌, ℕ, suc, zero, ◌+◌, ◌-◌, ◌*◌, ◌/◌, ◌<◌, ◌≤◌, Bool, true, false, ◌&&◌, List, [], ◌∷◌, ◌++◌, Option, Some, None, length, refl, sym, ap, ◌∙◌, arith, subst, inl, inr, ◌⊎◌}
use Rattle.std.specs.Prelude.{slice_get, slice_set, slice_index_or, position, drop, take, min}
use Rattle.std.proofs.lemmas.List.{length-append, length-drop, take_min}
use Rattle.std.proofs.lemmas.List.Elements.{All-weaker}
use Rattle.std.proofs.lemmas.Option.{slice_get_within, slice_get-get_or}
use Rattle.geom_core.specs.Areas.{Area}
use Rattle.geom_core.proofs.Tests.{true_or_false, and_left, and_right}
use Rattle.stroke_core.specs.declared.bound.Bound.{Bound}
use Rattle.stroke_core.specs.Bounds.{LiesIn, Encloses, AreBlocks, IsBoundOf, near}
use Rattle.stroke_core.specs.Fed.{plus}
use Rattle.stroke_core.specs.Marks.{Marks, marks_clash}
use Rattle.stroke_core.proofs.Apart.{no_clash, old_or_last}
use Rattle.stroke_core.proofs.FirstPlace.{position_none_taken, part_passed}

pub blocks_none : (u : Bool) → AreBlocks u [] []
blocks_none u = record {
  enough = omega arith;
  needed = omega arith;
  bounded = λ i b e. cc;
}

-- a job of a block whose bound isn't near doesn't clash
apart_in_block : (marks : List Marks) (i k : ℕ) (block bound : Bound) (m new : Marks) → IsBoundOf new.unique marks i block → Encloses bound new → near block bound ≡ false → 64 * i ≤ k → k < 64 * i + 64 → slice_get marks k ≡ Some m → marks_clash m new ≡ false
apart_in_block marks i k block bound m new h r n low high e = elim (true_or_false (new.unique && m.unique)) [
  | inl t ↦ (let mine : m.unique ≡ true = and_right new.unique m.unique t in let theirs : new.unique ≡ true = and_left new.unique m.unique t in rw (mine, theirs) refl)
  | inr t ↦ no_clash block bound m new (h k m low high e t) r n
]

-- blocks whose bounds aren't near are passed over
pub blocks_passed : (marks : List Marks) (blocks : List Bound) (new : Marks) (bound : Bound) (from to : ℕ) → AreBlocks new.unique marks blocks → Encloses bound new → from ≤ to
    → ((k : ℕ) (b : Bound) → from ≤ k → k < to → slice_get blocks k ≡ Some b → near b bound ≡ false) → position (λ f. marks_clash f new) marks ≡ plus (64 * from) (position (λ f. marks_clash f new) (drop (64 * from) marks))
    → position (λ f. marks_clash f new) marks ≡ plus (64 * to) (position (λ f. marks_clash f new) (drop (64 * to) marks))
blocks_passed marks blocks new bound from to h r order far e = part_passed (λ f. marks_clash f new) marks (64 * from) (64 * (to - from)) (64 * to) (omega arith) e
    (position_none_taken (λ f. marks_clash f new) (64 * from) (64 * (to - from)) marks (λ k m low high at.
    let enough : length marks ≤ 64 * length blocks = h.enough in
    let within : k < length marks = slice_get_within marks k m at in
    let here : slice_get blocks (k / 64) ≡ Some (slice_index_or blocks (k / 64) bound) = slice_get-get_or blocks (k / 64) bound (omega arith) in
    apart_in_block marks (k / 64) k (slice_index_or blocks (k / 64) bound) bound m new (h.bounded (k / 64) _ here) r (far (k / 64) _ (omega arith) (omega arith) here) (omega arith) (omega arith) at))

-- none is passed over before the first block
pub none_passed : {A : Type 0} (p : A → Bool) (xs : List A) → position p xs ≡ plus (64 * 0) (position p (drop (64 * 0) xs))
none_passed p xs = go (position p xs)
  where
    go : (o : Option ℕ) → o ≡ plus 0 o
    go None = refl
    go (Some i) = ap Some (omega arith)

-- a block, where it ends at its last job
pub whole_block : {A : Type 0} (p : A → Bool) (xs : List A) (i from to n : ℕ) (found : Option ℕ) → from ≡ 64 * i → to - from ≡ n → n ≡ min 64 (length xs - 64 * i) → found ≡ plus from (position p (take (to - from) (drop from xs))) → found ≡ plus (64 * i) (position p (take 64 (drop (64 * i) xs)))
whole_block p xs i from to n found same end few e =
    e ∙ (λ j. plus (same j) (position p (take (end j) (drop (same j) xs))))
    ∙ ap (λ k. plus (64 * i) (position p (take k (drop (64 * i) xs)))) (few ∙ ap (min 64) (sym (length-drop (64 * i) xs)))
    ∙ ap (λ ys. plus (64 * i) (position p ys)) (take_min 64 (drop (64 * i) xs))

-- a bound in place of another, with all that lies in that
pub widened : (b c : Bound) (m : Marks) → ((a : Area) → LiesIn b a → LiesIn c a) → Encloses b m → Encloses c m
widened b c m kept h = record { reads = All-weaker (LiesIn b) (LiesIn c) kept _ h.reads; writes = All-weaker (LiesIn b) (LiesIn c) kept _ h.writes }

length_next : {A : Type 0} (xs : List A) (x : A) → length (xs ++ x ∷ []) ≡ length xs + 1
length_next xs x = simp length-append

length_set : {A : Type 0} (xs : List A) (i : ℕ) (x : A) → length (slice_set xs i x) ≡ length xs
length_set [] i x = refl
length_set (y ∷ xs) zero x = refl
length_set (y ∷ xs) (suc i) x = ap suc (length_set xs i x)

-- an element of a list in which one was set
abbrev IsSet : {A : Type 0} → List A → ℕ → A → ℕ → A → Type 0
IsSet xs i x k y = ((k ≡ i) × (y ≡ x)) ⊎ ((k ≢ i) × (slice_get xs k ≡ Some y))

get_set : {A : Type 0} (xs : List A) (i : ℕ) (x : A) (k : ℕ) (y : A) → slice_get (slice_set xs i x) k ≡ Some y → IsSet xs i x k y
get_set [] i x k y e = cc
get_set (z ∷ xs) zero x zero y e = inl (refl, cc)
get_set (z ∷ xs) zero x (suc k) y e = inr (omega arith, e)
get_set (z ∷ xs) (suc i) x zero y e = inr (omega arith, e)
get_set (z ∷ xs) (suc i) x (suc k) y e = elim (get_set xs i x k y e) [ inl t ↦ inl (ap suc t.0, t.1) | inr t ↦ inr ((λ s. t.0 (omega arith)), t.1) ]

-- a new block
pub blocks_more : (u : Bool) (marks : List Marks) (blocks : List Bound) (m : Marks) (b : Bound) → AreBlocks u marks blocks → length marks ≡ 64 * length blocks → ((u && m.unique) ≡ false → Encloses b m) → AreBlocks u (marks ++ m ∷ []) (blocks ++ b ∷ [])
blocks_more u marks blocks m b h full r =
    let n : length (blocks ++ b ∷ []) ≡ length blocks + 1 = length_next blocks b in
    let l : length (marks ++ m ∷ []) ≡ length marks + 1 = length_next marks m in
    record {
      enough = omega arith;
      needed = omega arith;
      bounded = λ i c at k x low high e t. elim (old_or_last blocks b i c at) [
        | inl p ↦ elim (old_or_last marks m k x e) [
          | inl q ↦ h.bounded i c p.1 k x low high q.1 t
          | inr q ↦ absurd (omega (arith, p.0, q.0))
        ]
        | inr p ↦ elim (old_or_last marks m k x e) [
          | inl q ↦ absurd (omega (arith, p.0, q.0))
          | inr q ↦ subst (λ (c : Bound). Encloses c x) (sym p.1) (subst (λ (m : Marks). Encloses b m) (sym q.1) (r (sym (ap (λ (m : Marks). u && m.unique) q.1) ∙ t)))
        ]
      ];
    }

-- one more job in the last block
pub blocks_wider : (u : Bool) (marks : List Marks) (blocks : List Bound) (m : Marks) (last : ℕ) (b c : Bound) → AreBlocks u marks blocks → last + 1 ≡ length blocks → slice_get blocks last ≡ Some b → length marks < 64 * length blocks
    → ((a : Area) → LiesIn b a → LiesIn c a) → ((u && m.unique) ≡ false → Encloses c m) → AreBlocks u (marks ++ m ∷ []) (slice_set blocks last c)
blocks_wider u marks blocks m last b c h end at_last room kept r =
    let n : length (slice_set blocks last c) ≡ length blocks = length_set blocks last c in
    let l : length (marks ++ m ∷ []) ≡ length marks + 1 = length_next marks m in
    let needed : 64 * length blocks < length marks + 64 = h.needed in
    record {
      enough = omega arith;
      needed = omega arith;
      bounded = λ i d at k x low high e t. elim (get_set blocks last c i d at) [
        | inl p ↦ subst (λ (d : Bound). Encloses d x) (sym p.1) (elim (old_or_last marks m k x e) [
          | inl q ↦ widened b c x kept (h.bounded last b at_last k x (omega (arith, p.0)) (omega (arith, p.0)) q.1 t)
          | inr q ↦ subst (λ (m : Marks). Encloses c m) (sym q.1) (r (sym (ap (λ (m : Marks). u && m.unique) q.1) ∙ t))
        ])
        | inr p ↦ (let within : i < length blocks = slice_get_within blocks i d p.1 in elim (old_or_last marks m k x e) [
          | inl q ↦ h.bounded i d p.1 k x low high q.1 t
          | inr q ↦ absurd (omega (arith, p.0, q.0))
        ])
      ];
    }
