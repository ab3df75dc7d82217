-- What it means that jobs don't conflict.
use Rattle.std.proofs.Common.{◌≡◌, ◌≢◌, ℕ, suc, zero, ◌+◌, ◌-◌, ◌<◌, ◌≤◌, Bool, true, false, ◌&&◌, ◌||◌, not, cond, List, [], ◌∷◌, ◌++◌, map, Option, Some, None, is_some, length, take, refl, sym, ap, ◌∙◌, arith, subst, eqb, ◌⊎◌, inl, inr}
use Rattle.std.specs.Prelude.{ℤ, ◌+ℤ◌, pos, int_le, int_lt, slice_get}
use Rattle.std.specs.List.{list_any, list_all, find, flat_map, range_with_len}
use Rattle.std.specs.Option.{option_map, option_or}
use Rattle.std.proofs.lemmas.Bool.Decides.{nat_tests}
use borrow.Author.Differences.{ints}
use Rattle.geom_core.specs.Areas.{Area, holds, meets, Point}
use Rattle.geom_core.specs.Rects.{any_holds}
use Rattle.doc_model.specs.declared.job.Job.{Job}
use Rattle.doc_model.specs.declared.job.Kind.{Kind}
use Rattle.geom_core.proofs.Tests.{true_or_false, and_left, and_right, both_true, or_cases, or_left, or_right, is_some-None}
use Rattle.doc_model.specs.Strokes.{runs, runs_at, passes, Jobs, conflict, conflicting, any_meet, one_run}
use Rattle.doc_model.specs.Searches.{first_conflicting, second_of, pair_at, pair_of, least, least_from}
use Rattle.doc_model.specs.Kept.{kept, up_to}

-- what the least number tells
abbrev pub IsLeastFrom : ℕ → ℕ → (ℕ → Bool) → Option ℕ → Type 0
IsLeastFrom k n test None = (i : ℕ) → k ≤ i → i < k + n → test i ≡ false
IsLeastFrom k n test (Some i) = (k ≤ i) × (i < k + n) × (test i ≡ true) × ((j : ℕ) → k ≤ j → j < i → test j ≡ false)

pub least_from_is : (k n : ℕ) (test : ℕ → Bool) → IsLeastFrom k n test (least_from k n test)
least_from_is k zero test = λ i a b. absurd (omega arith)
least_from_is k (suc n) test = go (test k) refl (least_from (k + 1) n test) (least_from_is (k + 1) n test)
  where
    here : (b : Bool) → test k ≡ b → (i : ℕ) → i ≡ k → test i ≡ b
    here b e i same = ap test same ∙ e

    go : (b : Bool) → test k ≡ b → (r : Option ℕ) → IsLeastFrom (k + 1) n test r → IsLeastFrom k (suc n) test (cond b (Some k) r)
    go true e r rest = (omega arith, omega arith, e, λ j a b. absurd (omega arith))
    go false e None rest = λ i a b. elim (true_or_false (Rattle.std.proofs.Common.eqb i k)) [ inl h ↦ here false e i (grind (arith, Rattle.std.proofs.lemmas.Bool.Decides.nat_tests)) | inr h ↦ rest i (grind (arith, Rattle.std.proofs.lemmas.Bool.Decides.nat_tests)) (omega arith) ]
    go false e (Some i) rest = (omega arith, omega arith, rest.2, λ j a b. elim (true_or_false (Rattle.std.proofs.Common.eqb j k)) [ inl h ↦ here false e j (grind (arith, Rattle.std.proofs.lemmas.Bool.Decides.nat_tests)) | inr h ↦ rest.3 j (grind (arith, Rattle.std.proofs.lemmas.Bool.Decides.nat_tests)) b ])

pub no_least : (n : ℕ) (test : ℕ → Bool) → least n test ≡ None → (i : ℕ) → i < n → test i ≡ false
no_least n test e i h = let told : IsLeastFrom 0 n test None = subst (IsLeastFrom 0 n test) e (least_from_is 0 n test) in told i (omega arith) (omega arith)

one_axis : (a b p : ℤ) (n m : ℕ) → (int_le a p && int_lt p (a +ℤ pos n)) ≡ true → (int_le b p && int_lt p (b +ℤ pos m)) ≡ true → (int_lt a (b +ℤ pos m) && int_lt b (a +ℤ pos n)) ≡ true
one_axis a b p n m h k = grind (arith, ints)

-- rectangles that hold one point meet
pub meets_at : (a b : Area) (p : Point) → holds a p ≡ true → holds b p ≡ true → meets a b ≡ true
meets_at a b p h k = both_true _ _ (one_axis a.x b.x p.x a.w b.w (and_left _ _ h) (and_left _ _ k)) (one_axis a.y b.y p.y a.h b.h (and_right _ _ h) (and_right _ _ k))

any_meets_one : (a : Area) (bs : List Area) (p : Point) → holds a p ≡ true → any_holds bs p ≡ true → list_any (λ b. meets a b) bs ≡ true
any_meets_one a [] p h k = cc
any_meets_one a (b ∷ bs) p h k = elim (or_cases _ _ k) [ inl e ↦ or_left _ _ (meets_at a b p h e) | inr e ↦ or_right _ _ (any_meets_one a bs p h e) ]

pub any_meet_at : (xs ys : List Area) (p : Point) → any_holds xs p ≡ true → any_holds ys p ≡ true → any_meet xs ys ≡ true
any_meet_at [] ys p h k = cc
any_meet_at (a ∷ xs) ys p h k = elim (or_cases _ _ h) [ inl e ↦ or_left _ _ (any_meets_one a ys p e k) | inr e ↦ or_right _ _ (any_meet_at xs ys p e k) ]

-- rectangles of which none meet have no common point
pub apart_unless_meet : (xs ys : List Area) → any_meet xs ys ≡ false → (p : Point) → any_holds xs p ≡ true → any_holds ys p ≡ false
apart_unless_meet xs ys e p h = elim (true_or_false (any_holds ys p)) [ inl k ↦ (let t : any_meet xs ys ≡ true = any_meet_at xs ys p h k in cc) | inr k ↦ k ]

pub all_from_same : (k n : ℕ) (s t : ℕ → Bool) → ((i : ℕ) → k ≤ i → i < k + n → s i ≡ t i) → list_all s (range_with_len k n) ≡ list_all t (range_with_len k n)
all_from_same k zero s t same = refl
all_from_same k (suc n) s t same = rw (same k (omega arith) (omega arith), all_from_same (k + 1) n s t (λ i a b. same i (omega arith) (omega arith))) refl

slice_get_take : {A : Type 0} (m : ℕ) (xs : List A) (i : ℕ) → i < m → slice_get (take m xs) i ≡ slice_get xs i
slice_get_take zero xs i h = absurd (omega arith)
slice_get_take (suc m) [] i h = refl
slice_get_take (suc m) (x ∷ xs) zero h = refl
slice_get_take (suc m) (x ∷ xs) (suc i) h = slice_get_take m xs i (omega arith)

-- the first m jobs conflict as they do in the whole list
pub conflicting-take : (m : ℕ) (jobs : Jobs) (i j : ℕ) → i < j → j < m → conflicting (take m jobs) i j ≡ conflicting jobs i j
conflicting-take m jobs i j h l =
    let run : one_run (take m jobs) i j ≡ one_run jobs i j = all_from_same i (suc j - i) (runs_at (take m jobs)) (runs_at jobs) (λ k a b. ap (λ o. passes o (λ (j : Kind × Job). runs j.0)) (slice_get_take m jobs k (omega arith))) in
    rw (run, slice_get_take m jobs i (omega arith), slice_get_take m jobs j l) refl

length_take_le : {A : Type 0} (m : ℕ) (xs : List A) → length (take m xs) ≤ m
length_take_le zero xs = omega arith
length_take_le (suc m) [] = omega arith
length_take_le (suc m) (x ∷ xs) = let h : length (take m xs) ≤ m = length_take_le m xs in omega arith

find_append : {A : Type 0} (t : A → Bool) (xs ys : List A) → find t (xs ++ ys) ≡ option_or (find t xs) (find t ys)
find_append t [] ys = refl
find_append t (x ∷ xs) ys = go (t x) (find_append t xs ys)
  where
    go : (b : Bool) → find t (xs ++ ys) ≡ option_or (find t xs) (find t ys) → cond b (Some x) (find t (xs ++ ys)) ≡ option_or (cond b (Some x) (find t xs)) (find t ys)
    go true more = refl
    go false more = more

-- the first in a row of pairs with one second place
found_in_row : (jobs : Jobs) (j : ℕ) (is : List ℕ) → find (λ (p : ℕ × ℕ). conflicting jobs p.0 p.1) (map (λ (i : ℕ). (i, j)) is) ≡ option_map (λ (i : ℕ). (i, j)) (find (λ i. conflicting jobs i j) is)
found_in_row jobs j [] = refl
found_in_row jobs j (i ∷ is) = go (conflicting jobs i j) (found_in_row jobs j is)
  where
    go : (b : Bool) → find (λ (p : ℕ × ℕ). conflicting jobs p.0 p.1) (map (λ (i : ℕ). (i, j)) is) ≡ option_map (λ (i : ℕ). (i, j)) (find (λ i. conflicting jobs i j) is)
        → cond b (Some (i, j)) (find (λ (p : ℕ × ℕ). conflicting jobs p.0 p.1) (map (λ (i : ℕ). (i, j)) is)) ≡ option_map (λ (i : ℕ). (i, j)) (cond b (Some i) (find (λ i. conflicting jobs i j) is))
    go true more = refl
    go false more = more

-- as numbers from 1
abbrev numbered : Option (ℕ × ℕ) → Option (ℕ × ℕ)
numbered o = option_map (λ (p : ℕ × ℕ). (suc p.0, suc p.1)) o

-- the pairs with these second places
abbrev rows : List ℕ → List (ℕ × ℕ)
rows js = flat_map (λ (j : ℕ). map (λ (i : ℕ). (i, j)) (range_with_len 0 j)) js

found_in_rows : (jobs : Jobs) (js : List ℕ) → numbered (find (λ (p : ℕ × ℕ). conflicting jobs p.0 p.1) (rows js)) ≡ pair_at jobs (find (λ j. is_some (first_conflicting jobs j)) js)
found_in_rows jobs [] = refl
found_in_rows jobs (j ∷ js) =
    ap numbered (find_append (λ (p : ℕ × ℕ). conflicting jobs p.0 p.1) (map (λ (i : ℕ). (i, j)) (range_with_len 0 j)) (rows js))
    ∙ ap (λ o. numbered (option_or o (find (λ (p : ℕ × ℕ). conflicting jobs p.0 p.1) (rows js)))) (found_in_row jobs j (range_with_len 0 j))
    ∙ go (first_conflicting jobs j) refl (found_in_rows jobs js)
  where
    go : (o : Option ℕ) → first_conflicting jobs j ≡ o → numbered (find (λ (p : ℕ × ℕ). conflicting jobs p.0 p.1) (rows js)) ≡ pair_at jobs (find (λ j. is_some (first_conflicting jobs j)) js)
        → numbered (option_or (option_map (λ (i : ℕ). (i, j)) o) (find (λ (p : ℕ × ℕ). conflicting jobs p.0 p.1) (rows js))) ≡ pair_at jobs (cond (is_some o) (Some j) (find (λ j. is_some (first_conflicting jobs j)) js))
    go None e more = more
    go (Some i) e more = ap (λ o. pair_of o j) (sym e)

-- the first pair is found by its second place, and then by its first
pub conflict_by : (jobs : Jobs) → conflict jobs ≡ pair_at jobs (second_of jobs)
unfolding conflict
conflict_by jobs = found_in_rows jobs (range_with_len 0 (length jobs))

-- of the kept jobs no two conflict
pub kept_clear : (jobs : Jobs) (i j : ℕ) → i < j → j < length (kept jobs) → conflicting (kept jobs) i j ≡ false
kept_clear jobs i j h l =
    subst (λ o. conflicting (up_to jobs o) i j ≡ false) (sym (conflict_by jobs))
    (go (second_of jobs) (least_from_is 0 (length jobs) (λ j. is_some (first_conflicting jobs j))) (subst (λ o. j < length (up_to jobs o)) (conflict_by jobs) l))
  where
    seconds : ℕ → Bool
    seconds j = is_some (first_conflicting jobs j)

    clear_at : seconds j ≡ false → conflicting jobs i j ≡ false
    clear_at e = no_least j (λ i. conflicting jobs i j) (is_some-None _ e) i h

    go : (o : Option ℕ) → IsLeastFrom 0 (length jobs) seconds o → j < length (up_to jobs (pair_at jobs o)) → conflicting (up_to jobs (pair_at jobs o)) i j ≡ false
    go None told l = clear_at (told j (omega arith) (omega arith))
    go (Some m) told l = pick (first_conflicting jobs m) told.2 l
      where
        pick : (o : Option ℕ) → is_some o ≡ true → j < length (up_to jobs (pair_of o m)) → conflicting (up_to jobs (pair_of o m)) i j ≡ false
        pick None e l = cc
        pick (Some q) e l =
            let short : length (take (suc m - 1) jobs) ≤ suc m - 1 = length_take_le (suc m - 1) jobs in
            let below : j < m = omega arith in
            conflicting-take (suc m - 1) jobs i j h (omega arith) ∙ clear_at (told.3 j (omega arith) below)

-- what all of a range pass
pub all_from_at : (k n : ℕ) (t : ℕ → Bool) (i : ℕ) → list_all t (range_with_len k n) ≡ true → k ≤ i → i < k + n → t i ≡ true
all_from_at k zero t i e a b = absurd (omega arith)
all_from_at k (suc n) t i e a b = elim (true_or_false (eqb i k)) [
  | inl h ↦ (let same : i ≡ k = grind (arith, nat_tests) in ap t same ∙ and_left _ _ e)
  | inr h ↦ (let other : i ≢ k = grind (arith, nat_tests) in all_from_at (k + 1) n t i (and_right _ _ e) (omega arith) (omega arith))
]

pub all_from_all : (k n : ℕ) (t : ℕ → Bool) → ((i : ℕ) → k ≤ i → i < k + n → t i ≡ true) → list_all t (range_with_len k n) ≡ true
all_from_all k zero t all = refl
all_from_all k (suc n) t all = both_true _ _ (all k (omega arith) (omega arith)) (all_from_all (k + 1) n t (λ i a b. all i (omega arith) (omega arith)))
