-- The new job is compared with the jobs of the last run alone.
use Rattle.std.proofs.Common.{◌≡◌, ℕ, suc, zero, ◌+◌, ◌-◌, ◌<◌, ◌≤◌, Bool, true, false, ◌&&◌, not, cond, List, [], ◌∷◌, ◌++◌, map, Option, Some, None, length, drop, refl, sym, ap, ◌∙◌, arith, subst, inl, inr, ◌⊎◌}
use Rattle.std.specs.Prelude.{slice_get, position}
use Rattle.std.proofs.lemmas.List.{drop-append-le, drop_all, length-drop, length-map, map-append}
use Rattle.std.proofs.lemmas.List.Elements.{All-append, All-cons}
use Rattle.geom_core.proofs.Tests.{true_or_false, and_left}
use Rattle.doc_model.specs.declared.job.Job.{Job}
use Rattle.doc_model.specs.declared.job.Kind.{Kind}
use Rattle.doc_model.specs.Jobs.{checks}
use Rattle.doc_model.specs.Strokes.{Jobs, conflicting, one_run, passes, runs, runs_at, disturb, is_uni}
use Rattle.doc_model.specs.Searches.{first_conflicting, pair_of, least, least_from}
use Rattle.doc_model.proofs.Conflicts.{all_from_all, all_from_at}
use Rattle.stroke_core.specs.Fed.{IsKept, pair_or, plus}
use Rattle.stroke_core.specs.Marks.{Marks, marks_of, marks_in_run, marks_clash}
use Rattle.stroke_core.proofs.Apart.{and_comm}
use Rattle.stroke_core.proofs.FirstPlace.{plus_plus, position_here, position_later}
use Rattle.doc_model.proofs.Growing.{length_last}
use Rattle.stroke_core.proofs.MoreJobs.{conflict_more, conflict_nil}

get_front : (jobs rest : Jobs) (k : ℕ) → k < length jobs → slice_get (jobs ++ rest) k ≡ slice_get jobs k
get_front [] rest k h = absurd (omega arith)
get_front (j ∷ jobs) rest zero h = refl
get_front (j ∷ jobs) rest (suc k) h = get_front jobs rest k (omega arith)

get_last : (jobs : Jobs) (x : Kind × Job) → slice_get (jobs ++ x ∷ []) (length jobs) ≡ Some x
get_last [] x = refl
get_last (j ∷ jobs) x = get_last jobs x

runs_front : (jobs : Jobs) (x : Kind × Job) (k : ℕ) → k < length jobs → runs_at (jobs ++ x ∷ []) k ≡ runs_at jobs k
runs_front jobs x k h = ap (λ o. passes o (λ (j : Kind × Job). runs j.0)) (get_front jobs (x ∷ []) k h)

runs_last : (jobs : Jobs) (x : Kind × Job) (k : ℕ) → k ≡ length jobs → runs_at (jobs ++ x ∷ []) k ≡ runs x.0
runs_last jobs x k e = ap (λ k. passes (slice_get (jobs ++ x ∷ []) k) (λ (j : Kind × Job). runs j.0)) e ∙ ap (λ o. passes o (λ (j : Kind × Job). runs j.0)) (get_last jobs x)

-- a test that fails on the first s numbers
least_skip : (k s m n : ℕ) (t : ℕ → Bool) → n ≡ s + m → ((i : ℕ) → k ≤ i → i < k + s → t i ≡ false) → least_from k n t ≡ least_from (k + s) m t
least_skip k zero m n t e no_one = (λ i. least_from (same k i) (count n m e i) t)
  where
    same : (k : ℕ) → k ≡ k + 0
    same k = omega arith

    count : (n m : ℕ) → n ≡ 0 + m → n ≡ m
    count n m e = omega arith
least_skip k (suc s) m zero t e no_one = absurd (omega arith)
least_skip k (suc s) m (suc n) t e no_one = (λ i. cond (no_one k (omega arith) (omega arith) i) (Some k) (least_from (k + 1) n t)) ∙ least_skip (k + 1) s m n t (omega arith) (λ i a b. no_one i (omega arith) (omega arith)) ∙ ap (λ j. least_from j m t) (next k s)
  where
    next : (k s : ℕ) → (k + 1) + s ≡ k + suc s
    next k s = omega arith

least_none : (n : ℕ) (t : ℕ → Bool) → ((i : ℕ) → i < n → t i ≡ false) → least n t ≡ None
least_none n t no_one = least_skip 0 n 0 n t (omega arith) (λ i a b. no_one i (omega arith))

zero_more : (k : ℕ) → k ≡ k + 0
zero_more k = omega arith

next_to : (k i : ℕ) → (k + 1) + i ≡ k + suc i
next_to k i = omega arith

-- the same as the least number
least_position : {A : Type 0} (p : A → Bool) (xs : List A) (k : ℕ) (t : ℕ → Bool) → ((i : ℕ) (a : A) → slice_get xs i ≡ Some a → t (k + i) ≡ p a) → least_from k (length xs) t ≡ plus k (position p xs)
least_position p [] k t same = refl
least_position p (x ∷ xs) k t same =
    let later : least_from (k + 1) (length xs) t ≡ plus (k + 1) (position p xs) = least_position p xs (k + 1) t (λ i a e. ap t (next_to k i) ∙ same (suc i) a e) in
    elim (true_or_false (p x)) [
      | inl e ↦ ap (λ b. cond b (Some k) (least_from (k + 1) (length xs) t)) (ap t (zero_more k) ∙ same 0 x refl ∙ e) ∙ ap Some (zero_more k) ∙ sym (ap (plus k) (position_here p x xs e))
      | inr e ↦ ap (λ b. cond b (Some k) (least_from (k + 1) (length xs) t)) (ap t (zero_more k) ∙ same 0 x refl ∙ e) ∙ later ∙ plus_plus k (position p xs) ∙ sym (ap (plus k) (position_later p x xs e))
    ]

-- the job of a mark
abbrev Marked : Jobs → ℕ → Marks → Type 0
Marked jobs m f = (j : Kind × Job) × (slice_get jobs m ≡ Some j) × (f ≡ marks_of j)

get_mapped : (i : ℕ) (jobs : Jobs) (f : Marks) → slice_get (map marks_of jobs) i ≡ Some f → Marked jobs i f
get_mapped zero [] f e = cc
get_mapped (suc i) [] f e = cc
get_mapped zero (j ∷ jobs) f e = let same : marks_of j ≡ f = cc in (j, refl, sym same)
get_mapped (suc i) (j ∷ jobs) f e = get_mapped i jobs f e

-- the mark at a place behind the start
get_marked : (s i m : ℕ) (jobs : Jobs) (f : Marks) → m ≡ s + i → slice_get (map marks_of (drop s jobs)) i ≡ Some f → Marked jobs m f
get_marked zero i m jobs f h e = let same : i ≡ m = omega arith in subst (λ k. Marked jobs k f) same (get_mapped i jobs f e)
get_marked (suc s) i zero jobs f h e = absurd (omega arith)
get_marked (suc s) zero (suc m) [] f h e = cc
get_marked (suc s) (suc i) (suc m) [] f h e = cc
get_marked (suc s) i (suc m) (j ∷ jobs) f h e = get_marked s i m jobs f (omega arith) e

get_below : (jobs : Jobs) (i : ℕ) (j : Kind × Job) → slice_get jobs i ≡ Some j → i < length jobs
get_below [] i j e = cc
get_below (k ∷ jobs) zero j e = omega arith
get_below (k ∷ jobs) (suc i) j e = let r : i < length jobs = get_below jobs i j e in omega arith

below_or : (k n : ℕ) → k < suc n → (k < n) ⊎ (k ≡ n)
below_or zero zero h = inr refl
below_or zero (suc n) h = inl (omega arith)
below_or (suc k) zero h = absurd (omega arith)
below_or (suc k) (suc n) h = elim (below_or k n (omega arith)) [ inl l ↦ inl (omega arith) | inr e ↦ inr (ap suc e) ]

-- which of the kept jobs conflict with a new one
pub conflicting_in : (jobs : Jobs) (marks : List Marks) (start : ℕ) (x j : Kind × Job) (i : ℕ) → IsKept jobs marks start → runs x.0 ≡ true → start ≤ i → i < length jobs → slice_get jobs i ≡ Some j → conflicting (jobs ++ x ∷ []) i (length jobs) ≡ marks_clash (marks_of j) (marks_of x)
conflicting_in jobs marks start x j i h r a b e =
    let run : one_run (jobs ++ x ∷ []) i (length jobs) ≡ true = all_from_all i (suc (length jobs) - i) (runs_at (jobs ++ x ∷ [])) each in
    rw (run, get_front jobs (x ∷ []) i b, get_last jobs x, e) (and_comm (disturb j.1 x.1) (not (is_uni j.0 && is_uni x.0)))
  where
    each : (k : ℕ) → i ≤ k → k < i + (suc (length jobs) - i) → runs_at (jobs ++ x ∷ []) k ≡ true
    each k c d = elim (below_or k (length jobs) (omega arith)) [ inl l ↦ runs_front jobs x k l ∙ h.run k (omega arith) l | inr l ↦ runs_last jobs x k l ∙ r ]

pub conflicting_before : (jobs : Jobs) (marks : List Marks) (start : ℕ) (x : Kind × Job) (i : ℕ) → IsKept jobs marks start → i < start → conflicting (jobs ++ x ∷ []) i (length jobs) ≡ false
conflicting_before jobs marks start x i h b = elim (true_or_false (conflicting (jobs ++ x ∷ []) i (length jobs))) [
  | inl e ↦ (let run : one_run (jobs ++ x ∷ []) i (length jobs) ≡ true = and_left _ _ e in
      let inside : start ≤ length jobs = h.inside in
      let t : runs_at (jobs ++ x ∷ []) (start - 1) ≡ true = all_from_at i (suc (length jobs) - i) (runs_at (jobs ++ x ∷ [])) (start - 1) run (omega arith) (omega arith) in
      let f : runs_at (jobs ++ x ∷ []) (start - 1) ≡ false = runs_front jobs x (start - 1) (omega arith) ∙ h.broken (omega arith) in
      cc)
  | inr e ↦ e
]

-- the first of the kept jobs that conflicts with a new one stands in the last run
first_in_run : (jobs : Jobs) (marks : List Marks) (start : ℕ) (x : Kind × Job) → IsKept jobs marks start → runs x.0 ≡ true → first_conflicting (jobs ++ x ∷ []) (length jobs) ≡ plus start (position (λ f. marks_clash f (marks_of x)) marks)
first_in_run jobs marks start x h r =
    least_skip 0 start (length marks) (length jobs) _ (sizes h.inside) (λ i a b. conflicting_before jobs marks start x i h (omega arith))
    ∙ least_position (λ f. marks_clash f (marks_of x)) marks (0 + start) (λ i. conflicting (jobs ++ x ∷ []) i (length jobs)) at_mark
    ∙ ap (λ s. plus s (position (λ f. marks_clash f (marks_of x)) marks)) (zero_plus start)
  where
    zero_plus : (n : ℕ) → 0 + n ≡ n
    zero_plus n = omega arith

    sizes : start ≤ length jobs → length jobs ≡ start + length marks
    sizes l = let a : length (drop start jobs) ≡ length jobs - start = length-drop start jobs in let b : length marks ≡ length (drop start jobs) = ap length h.marked ∙ length-map (drop start jobs) marks_of in omega arith

    at_mark : (i : ℕ) (f : Marks) → slice_get marks i ≡ Some f → conflicting (jobs ++ x ∷ []) ((0 + start) + i) (length jobs) ≡ marks_clash f (marks_of x)
    at_mark i f e = go (get_marked start i (start + i) jobs f refl (subst (λ (ms : List Marks). slice_get ms i ≡ Some f) h.marked e))
      where
        go : (j : Kind × Job) × (slice_get jobs (start + i) ≡ Some j) × (f ≡ marks_of j) → conflicting (jobs ++ x ∷ []) ((0 + start) + i) (length jobs) ≡ marks_clash f (marks_of x)
        go (j, e, same) = ap (λ k. conflicting (jobs ++ x ∷ []) (k + i) (length jobs)) (zero_plus start) ∙ conflicting_in jobs marks start x j (start + i) h r (omega arith) (get_below jobs (start + i) j e) e ∙ ap (λ m. marks_clash m (marks_of x)) (sym same)

-- a job that isn't of a run conflicts with none
pub first_outside : (jobs : Jobs) (x : Kind × Job) → runs x.0 ≡ false → first_conflicting (jobs ++ x ∷ []) (length jobs) ≡ None
first_outside jobs x r = least_none (length jobs) _ (λ i l. elim (true_or_false (conflicting (jobs ++ x ∷ []) i (length jobs))) [
  | inl e ↦ (let run : one_run (jobs ++ x ∷ []) i (length jobs) ≡ true = and_left _ _ e in
      let t : runs_at (jobs ++ x ∷ []) (length jobs) ≡ true = all_from_at i (suc (length jobs) - i) (runs_at (jobs ++ x ∷ [])) (length jobs) run (omega arith) (omega arith) in
      let f : runs_at (jobs ++ x ∷ []) (length jobs) ≡ false = runs_last jobs x (length jobs) refl ∙ r in
      cc)
  | inr e ↦ e
])

-- one more job that conflicts with none is kept
pub kept_more : (jobs : Jobs) (marks : List Marks) (start : ℕ) (x : Kind × Job) → IsKept jobs marks start → length jobs < 4096 → checks x.1 ≡ true → first_conflicting (jobs ++ x ∷ []) (length jobs) ≡ None
    → IsKept (jobs ++ x ∷ []) (cond (runs x.0) (marks ++ marks_of x ∷ []) []) (cond (runs x.0) start (length (jobs ++ x ∷ [])))
kept_more jobs marks start x h l c none = record {
  few = omega (arith, longer);
  checked = All-append (λ (j : Kind × Job). checks j.1 ≡ true) jobs (x ∷ []) h.checked (All-cons (λ (j : Kind × Job). checks j.1 ≡ true) x [] c (λ k d l. absurd (omega arith)));
  clear = conflict_more jobs x ∙ (λ i. pair_or (h.clear i) (pair_of (none i) (length jobs)));
  marked = marked (runs x.0);
  inside = inside (runs x.0);
  run = run (runs x.0) refl;
  broken = broken (runs x.0) refl;
}
  where
    longer : length (jobs ++ x ∷ []) ≡ suc (length jobs)
    longer = length_last jobs x

    in_jobs : start ≤ length jobs
    in_jobs = h.inside

    marked : (b : Bool) → cond b (marks ++ marks_of x ∷ []) [] ≡ map marks_of (drop (cond b start (length (jobs ++ x ∷ []))) (jobs ++ x ∷ []))
    marked true = ap (λ (ms : List Marks). ms ++ marks_of x ∷ []) h.marked ∙ sym (map-append marks_of (drop start jobs) (x ∷ [])) ∙ ap (map marks_of) (sym (drop-append-le start jobs (x ∷ []) in_jobs))
    marked false = ap (map marks_of) (sym (drop_all (length (jobs ++ x ∷ [])) (jobs ++ x ∷ []) (omega arith)))

    inside : (b : Bool) → cond b start (length (jobs ++ x ∷ [])) ≤ length (jobs ++ x ∷ [])
    inside true = omega (arith, longer, in_jobs)
    inside false = omega arith

    run : (b : Bool) → runs x.0 ≡ b → (k : ℕ) → cond b start (length (jobs ++ x ∷ [])) ≤ k → k < length (jobs ++ x ∷ []) → runs_at (jobs ++ x ∷ []) k ≡ true
    run true r k a b = elim (below_or k (length jobs) (omega (arith, longer))) [ inl l ↦ runs_front jobs x k l ∙ h.run k a l | inr e ↦ runs_last jobs x k e ∙ r ]
    run false r k a b = absurd (omega arith)

    broken : (b : Bool) → runs x.0 ≡ b → 0 < cond b start (length (jobs ++ x ∷ [])) → runs_at (jobs ++ x ∷ []) (cond b start (length (jobs ++ x ∷ [])) - 1) ≡ false
    broken true r a = runs_front jobs x (start - 1) (omega (arith, in_jobs)) ∙ h.broken a
    broken false r a = runs_last jobs x (length (jobs ++ x ∷ []) - 1) (omega (arith, longer)) ∙ r

-- what the search in the last run tells
pub first_told : (jobs : Jobs) (marks : List Marks) (start : ℕ) (kind : Kind) (job : Job) (mark : Marks) (o : Option ℕ) → IsKept jobs marks start → runs kind ≡ true → mark ≡ marks_of (kind, job) → o ≡ position (λ f. marks_clash f mark) marks → plus 1 (plus start o) ≡ plus 1 (first_conflicting (jobs ++ (kind, job) ∷ []) (length jobs))
first_told jobs marks start kind job mark o h r m e =
    ap (λ o. plus 1 (plus start o)) (e ∙ (λ i. position (λ f. marks_clash f (m i)) marks)) ∙ sym (ap (plus 1) (first_in_run jobs marks start (kind, job) h r))

-- what marks tell of a job's kind
pub in_run : (m : Marks) (x : Kind × Job) → Some m ≡ marks_in_run x → (runs x.0 ≡ true) × (m ≡ marks_of x)
in_run m x e = go (runs x.0) refl e
  where
    go : (b : Bool) → runs x.0 ≡ b → Some m ≡ cond b (Some (marks_of x)) None → (runs x.0 ≡ true) × (m ≡ marks_of x)
    go true r h = (r, cc)
    go false r h = cc

pub not_in_run : (x : Kind × Job) → None ≡ marks_in_run x → runs x.0 ≡ false
not_in_run x e = go (runs x.0) refl e
  where
    go : (b : Bool) → runs x.0 ≡ b → None ≡ cond b (Some (marks_of x)) None → runs x.0 ≡ false
    go true r h = cc
    go false r h = r

pub kept_none : IsKept [] [] 0
kept_none = record {
  few = omega arith;
  checked = λ k d l. absurd (omega arith);
  clear = conflict_nil;
  marked = refl;
  inside = omega arith;
  run = λ k a b. absurd (omega arith);
  broken = λ a. absurd (omega arith);
}

pub kept_same : (jobs jobs' : Jobs) (marks marks' : List Marks) (start start' : ℕ) → IsKept jobs marks start → jobs' ≡ jobs → marks' ≡ marks → start' ≡ start → IsKept jobs' marks' start'
kept_same jobs jobs' marks marks' start start' h a b c = rw (a, b, c) h
