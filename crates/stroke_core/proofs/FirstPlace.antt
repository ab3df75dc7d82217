-- The first place in a list at which a test passes.
use Rattle.std.proofs.Common.{◌≡◌, ℕ, suc, zero, ◌+◌, ◌-◌, ◌<◌, ◌≤◌, Bool, true, false, not, cond, List, [], ◌∷◌, Option, Some, None, length, drop, take, refl, sym, ap, ◌∙◌, arith, inl, inr}
use Rattle.std.specs.Prelude.{slice_get, position, nat_lt, is_some}
use Rattle.std.specs.List.{position_or_len}
use Rattle.std.proofs.lemmas.List.{drop-drop}
use Rattle.std.proofs.lemmas.Bool.Decides.{nat_tests}
use Rattle.geom_core.proofs.Tests.{true_or_false}
use Rattle.stroke_core.specs.Fed.{plus}

pub position_here : {A : Type 0} (p : A → Bool) (x : A) (xs : List A) → p x ≡ true → position p (x ∷ xs) ≡ Some 0
position_here p x xs e = ap (λ b. cond (nat_lt (cond (not b) (1 + position_or_len p xs) 0) (suc (length xs))) (Some (cond (not b) (1 + position_or_len p xs) 0)) None) e ∙ ap (λ b. cond b (Some 0) None) (zero_lt (length xs))
  where
    zero_lt : (n : ℕ) → nat_lt 0 (suc n) ≡ true
    zero_lt n = grind (arith, nat_tests)

pub position_later : {A : Type 0} (p : A → Bool) (x : A) (xs : List A) → p x ≡ false → position p (x ∷ xs) ≡ plus 1 (position p xs)
position_later p x xs e = ap (λ b. cond (nat_lt (cond (not b) (1 + position_or_len p xs) 0) (suc (length xs))) (Some (cond (not b) (1 + position_or_len p xs) 0)) None) e ∙ ap (λ b. cond b (Some (1 + position_or_len p xs)) None) (more_lt (position_or_len p xs) (length xs)) ∙ out (nat_lt (position_or_len p xs) (length xs)) (position_or_len p xs)
  where
    more_lt : (m n : ℕ) → nat_lt (1 + m) (suc n) ≡ nat_lt m n
    more_lt m n = grind (arith, nat_tests)

    out : (b : Bool) (m : ℕ) → cond b (Some (1 + m)) None ≡ plus 1 (cond b (Some m) None)
    out true m = refl
    out false m = refl

pub plus_plus : (k : ℕ) (o : Option ℕ) → plus (k + 1) o ≡ plus k (plus 1 o)
plus_plus k None = refl
plus_plus k (Some i) = ap Some (omega arith)

abbrev or_behind : Option ℕ → ℕ → Option ℕ → Option ℕ
or_behind None n later = plus n later
or_behind (Some i) n later = Some i

-- the first place stands in the first n elements, or else behind them
position_cut : {A : Type 0} (p : A → Bool) (n : ℕ) (xs : List A) → position p xs ≡ or_behind (position p (take n xs)) n (position p (drop n xs))
position_cut p zero xs = plus_zero (position p xs)
  where
    plus_zero : (o : Option ℕ) → o ≡ plus 0 o
    plus_zero None = refl
    plus_zero (Some i) = ap Some (omega arith)
position_cut p (suc n) [] = refl
position_cut p (suc n) (x ∷ xs) = elim (true_or_false (p x)) [
  | inl e ↦ position_here p x xs e ∙ sym (ap (λ o. or_behind o (suc n) (position p (drop n xs))) (position_here p x (take n xs) e))
  | inr e ↦ position_later p x xs e ∙ ap (plus 1) (position_cut p n xs) ∙ next (position p (take n xs)) (position p (drop n xs)) ∙ sym (ap (λ o. or_behind o (suc n) (position p (drop n xs))) (position_later p x (take n xs) e))
]
  where
    more : (o : Option ℕ) → plus 1 (plus n o) ≡ plus (suc n) o
    more None = refl
    more (Some i) = ap Some (omega arith)

    next : (o later : Option ℕ) → plus 1 (or_behind o n later) ≡ or_behind (plus 1 o) (suc n) later
    next None later = more later
    next (Some i) later = refl

-- where the first n elements have none, it stands behind them
pub position_behind : {A : Type 0} (p : A → Bool) (n : ℕ) (xs : List A) → position p (take n xs) ≡ None → position p xs ≡ plus n (position p (drop n xs))
position_behind p n xs e = position_cut p n xs ∙ ap (λ o. or_behind o n (position p (drop n xs))) e

-- where the first n elements have one, the rest doesn't matter
pub position_front : {A : Type 0} (p : A → Bool) (n i : ℕ) (xs : List A) → position p (take n xs) ≡ Some i → position p xs ≡ Some i
position_front p n i xs e = position_cut p n xs ∙ ap (λ o. or_behind o n (position p (drop n xs))) e

position_none : {A : Type 0} (p : A → Bool) (xs : List A) → ((k : ℕ) (x : A) → slice_get xs k ≡ Some x → p x ≡ false) → position p xs ≡ None
position_none p [] fails = refl
position_none p (x ∷ xs) fails = position_later p x xs (fails 0 x refl) ∙ ap (plus 1) (position_none p xs (λ k y e. fails (suc k) y e))

-- an element of a part of a list stands in the list
get_taken : {A : Type 0} (n k : ℕ) (xs : List A) (x : A) → slice_get (take n xs) k ≡ Some x → (k < n) × (slice_get xs k ≡ Some x)
get_taken zero k [] x e = cc
get_taken zero k (y ∷ xs) x e = cc
get_taken (suc n) k [] x e = cc
get_taken (suc n) zero (y ∷ xs) x e = (omega arith, e)
get_taken (suc n) (suc k) (y ∷ xs) x e = let t : (k < n) × (slice_get xs k ≡ Some x) = get_taken n k xs x e in (omega arith, t.1)

get_dropped : {A : Type 0} (m k : ℕ) (xs : List A) (x : A) → slice_get (drop m xs) k ≡ Some x → slice_get xs (m + k) ≡ Some x
get_dropped zero k xs x e = ap (slice_get xs) (same k) ∙ e
  where
    same : (k : ℕ) → 0 + k ≡ k
    same k = omega arith
get_dropped (suc m) k [] x e = cc
get_dropped (suc m) k (y ∷ xs) x e = ap (slice_get (y ∷ xs)) (next m k) ∙ get_dropped m k xs x e
  where
    next : (m k : ℕ) → suc m + k ≡ suc (m + k)
    next m k = omega arith

-- where no element of a part passes
pub position_none_taken : {A : Type 0} (p : A → Bool) (from n : ℕ) (xs : List A) → ((k : ℕ) (x : A) → from ≤ k → k < from + n → slice_get xs k ≡ Some x → p x ≡ false) → position p (take n (drop from xs)) ≡ None
position_none_taken p from n xs fails = position_none p (take n (drop from xs)) (λ k x e. let t : (k < n) × (slice_get (drop from xs) k ≡ Some x) = get_taken n k (drop from xs) x e in fails (from + k) x (omega arith) (omega (arith, t.0)) (get_dropped from k xs x t.1))

pub position_none_within : {A : Type 0} (p : A → Bool) (from to : ℕ) (xs : List A) → ((k : ℕ) (x : A) → from ≤ k → k < to → slice_get xs k ≡ Some x → p x ≡ false) → position p (take (to - from) (drop from xs)) ≡ None
position_none_within p from to xs fails = position_none_taken p from (to - from) xs (λ k x a l e. fails k x a (omega arith) e)

-- a part in which none is
pub part_passed : {A : Type 0} (p : A → Bool) (xs : List A) (from n to : ℕ) → to ≡ from + n → position p xs ≡ plus from (position p (drop from xs)) → position p (take n (drop from xs)) ≡ None → position p xs ≡ plus to (position p (drop to xs))
part_passed p xs from n to next e none =
    e ∙ ap (plus from) (position_behind p n (drop from xs) none ∙ ap (λ ys. plus n (position p ys)) (drop-drop n from xs)) ∙ sum (position p (drop (from + n) xs))
    ∙ ap (λ k. plus k (position p (drop k xs))) (sym next)
  where
    sum : (o : Option ℕ) → plus from (plus n o) ≡ plus (from + n) o
    sum None = refl
    sum (Some i) = ap Some (omega arith)

-- a block in which none was found
pub block_none : {A : Type 0} (p : A → Bool) (xs : List A) (from n to : ℕ) (found : Option ℕ) → to ≡ from + n → position p xs ≡ plus from (position p (drop from xs)) → found ≡ plus from (position p (take n (drop from xs))) → is_some found ≡ false → position p xs ≡ plus to (position p (drop to xs))
block_none p xs from n to found next e f none = part_passed p xs from n to next e (go (position p (take n (drop from xs))) f)
  where
    go : (o : Option ℕ) → found ≡ plus from o → o ≡ None
    go None f = refl
    go (Some i) f = let t : is_some found ≡ true = ap is_some f in cc

-- a block in which one was found
pub block_some : {A : Type 0} (p : A → Bool) (xs : List A) (from n : ℕ) (found : Option ℕ) → position p xs ≡ plus from (position p (drop from xs)) → found ≡ plus from (position p (take n (drop from xs))) → is_some found ≡ true → found ≡ position p xs
block_some p xs from n found e f some = go (position p (take n (drop from xs))) refl f
  where
    go : (o : Option ℕ) → position p (take n (drop from xs)) ≡ o → found ≡ plus from o → found ≡ position p xs
    go None g f = let t : is_some found ≡ false = ap is_some f in cc
    go (Some j) g f = f ∙ sym (ap (plus from) (position_front p n j (drop from xs) g)) ∙ sym e
