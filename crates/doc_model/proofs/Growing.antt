-- What one more job at the end changes of the first pair in conflict, and that it leaves what was kept at the front of what is kept.
use Rattle.std.proofs.Common.{◌≡◌, ℕ, suc, zero, ◌+◌, ◌-◌, ◌<◌, ◌≤◌, Bool, true, false, cond, [], ◌∷◌, ◌++◌, Option, Some, None, is_some, length, take, refl, sym, ap, ◌∙◌, arith, subst}
use Rattle.doc_model.specs.declared.job.Job.{Job}
use Rattle.doc_model.specs.declared.job.Kind.{Kind}
use Rattle.doc_model.specs.Kept as strokes_kept
use Rattle.doc_model.specs.Strokes.{Jobs, conflict, conflicting}
use Rattle.doc_model.specs.Searches.{first_conflicting, second_of, pair_at, least, least_from}
use Rattle.doc_model.specs.Kept.{up_to}
use Rattle.doc_model.proofs.Conflicts.{conflicting-take, conflict_by, IsLeastFrom, least_from_is}

pub take_front : (jobs rest : Jobs) → take (length jobs) (jobs ++ rest) ≡ jobs
take_front [] rest = refl
take_front (j ∷ jobs) rest = ap (λ js. j ∷ js) (take_front jobs rest)

pub take_less : (m : ℕ) (jobs rest : Jobs) → m ≤ length jobs → take m (jobs ++ rest) ≡ take m jobs
take_less zero jobs rest h = refl
take_less (suc m) [] rest h = absurd (omega arith)
take_less (suc m) (j ∷ jobs) rest h = ap (λ js. j ∷ js) (take_less m jobs rest (omega arith))

-- jobs of the front conflict as they did
conflicting_front : (jobs rest : Jobs) (i j : ℕ) → i < j → j < length jobs → conflicting (jobs ++ rest) i j ≡ conflicting jobs i j
conflicting_front jobs rest i j h l = sym (conflicting-take (length jobs) (jobs ++ rest) i j h l) ∙ ap (λ js. conflicting js i j) (take_front jobs rest)

least_same : (k n : ℕ) (s t : ℕ → Bool) → ((i : ℕ) → k ≤ i → i < k + n → s i ≡ t i) → least_from k n s ≡ least_from k n t
least_same k zero s t same = refl
least_same k (suc n) s t same = cond_same (same k (omega arith) (omega arith)) (least_same (k + 1) n s t (λ i a b. same i (omega arith) (omega arith)))
  where
    cond_same : {b c : Bool} {x y : Option ℕ} → b ≡ c → x ≡ y → cond b (Some k) x ≡ cond c (Some k) y
    cond_same e f i = cond (e i) (Some k) (f i)

abbrev pub or_then : Option ℕ → Option ℕ → Option ℕ
or_then None b = b
or_then (Some i) b = Some i

least_more : (k n : ℕ) (t : ℕ → Bool) → least_from k (suc n) t ≡ or_then (least_from k n t) (cond (t (k + n)) (Some (k + n)) None)
least_more k zero t = ap (λ m. cond (t m) (Some m) None) (same k)
  where
    same : (k : ℕ) → k ≡ k + 0
    same k = omega arith
least_more k (suc n) t = ap (cond (t k) (Some k)) (least_more (k + 1) n t ∙ ap (λ m. or_then (least_from (k + 1) n t) (cond (t m) (Some m) None)) (next k n)) ∙ out (t k) _ _
  where
    next : (k n : ℕ) → (k + 1) + n ≡ k + suc n
    next k n = omega arith

    out : (b : Bool) (x y : Option ℕ) → cond b (Some k) (or_then x y) ≡ or_then (cond b (Some k) x) y
    out true x y = refl
    out false x y = refl

pub first_front : (jobs rest : Jobs) (j : ℕ) → j < length jobs → first_conflicting (jobs ++ rest) j ≡ first_conflicting jobs j
first_front jobs rest j l = least_same 0 j _ _ (λ i a b. conflicting_front jobs rest i j (omega arith) l)

pub length_last : (jobs : Jobs) (x : Kind × Job) → length (jobs ++ x ∷ []) ≡ suc (length jobs)
length_last [] x = refl
length_last (j ∷ jobs) x = ap suc (length_last jobs x)

pub second_more : (jobs : Jobs) (x : Kind × Job) → second_of (jobs ++ x ∷ []) ≡ or_then (second_of jobs) (cond (is_some (first_conflicting (jobs ++ x ∷ []) (length jobs))) (Some (length jobs)) None)
second_more jobs x =
    ap (λ n. least n (λ j. is_some (first_conflicting (jobs ++ x ∷ []) j))) (length_last jobs x)
    ∙ least_more 0 (length jobs) (λ j. is_some (first_conflicting (jobs ++ x ∷ []) j))
    ∙ (λ i. or_then (least_same 0 (length jobs) _ (λ j. is_some (first_conflicting jobs j)) (λ j a b. ap is_some (first_front jobs (x ∷ []) j (omega arith))) i)
    (cond (is_some (first_conflicting (jobs ++ x ∷ []) (zero_plus (length jobs) i))) (Some (zero_plus (length jobs) i)) None))
  where
    zero_plus : (n : ℕ) → 0 + n ≡ n
    zero_plus n = omega arith

pub one_less : (n : ℕ) → suc n - 1 ≡ n
one_less n = omega arith

append_none : (jobs : Jobs) → jobs ++ [] ≡ jobs
append_none [] = refl
append_none (j ∷ jobs) = ap (λ js. j ∷ js) (append_none jobs)

-- what is kept with one more job, by the second index of the new pair, begins with what was kept, by that of the old
abbrev BeginsWith : Jobs → Kind × Job → Option ℕ → Option ℕ → Type 0
BeginsWith jobs x o p = (rest : Jobs) × (up_to (jobs ++ x ∷ []) (pair_at (jobs ++ x ∷ []) p) ≡ up_to jobs (pair_at jobs o) ++ rest)

-- what is kept with one more job begins with what was kept
pub kept_more : (jobs : Jobs) (x : Kind × Job) → (rest : Jobs) × (strokes_kept.kept (jobs ++ x ∷ []) ≡ strokes_kept.kept jobs ++ rest)
kept_more jobs x =
    let told : BeginsWith jobs x (second_of jobs) (second_of (jobs ++ x ∷ [])) = go (second_of jobs) (least_from_is 0 (length jobs) (λ j. is_some (first_conflicting jobs j))) (second_of (jobs ++ x ∷ [])) (second_more jobs x) in
    (told.0, ap (up_to (jobs ++ x ∷ [])) (conflict_by (jobs ++ x ∷ [])) ∙ told.1 ∙ sym (ap (λ o. up_to jobs o ++ told.0) (conflict_by jobs)))
  where
    go : (o : Option ℕ) → IsLeastFrom 0 (length jobs) (λ j. is_some (first_conflicting jobs j)) o → (p : Option ℕ) → p ≡ or_then o (cond (is_some (first_conflicting (jobs ++ x ∷ []) (length jobs))) (Some (length jobs)) None) → BeginsWith jobs x o p
    go None told p e = subst (BeginsWith jobs x None) (sym e) (last (first_conflicting (jobs ++ x ∷ []) (length jobs)) refl)
      where
        last : (q : Option ℕ) → first_conflicting (jobs ++ x ∷ []) (length jobs) ≡ q → BeginsWith jobs x None (cond (is_some (first_conflicting (jobs ++ x ∷ []) (length jobs))) (Some (length jobs)) None)
        last None f = (x ∷ [], rw f refl)
        last (Some i) f = ([], rw (f, f) (ap (λ n. take n (jobs ++ x ∷ [])) (one_less (length jobs)) ∙ take_less (length jobs) jobs (x ∷ []) (omega arith) ∙ take_whole jobs ∙ sym (append_none jobs)))
          where
            take_whole : (js : Jobs) → take (length js) js ≡ js
            take_whole [] = refl
            take_whole (k ∷ js) = ap (λ ls. k ∷ ls) (take_whole js)
    go (Some m) told p e = subst (BeginsWith jobs x (Some m)) (sym e) (pick (first_conflicting jobs m) told.2 refl)
      where
        pick : (q : Option ℕ) → is_some q ≡ true → first_conflicting jobs m ≡ q → BeginsWith jobs x (Some m) (Some m)
        pick None s f = cc
        pick (Some i) s f = ([], rw (first_front jobs (x ∷ []) m (omega (arith, told.1)), f) (ap (λ n. take n (jobs ++ x ∷ [])) (one_less m) ∙ take_less m jobs (x ∷ []) (omega (arith, told.1)) ∙ sym (ap (λ n. take n jobs) (one_less m)) ∙ sym (append_none _)))
