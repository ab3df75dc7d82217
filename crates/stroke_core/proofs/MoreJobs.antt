-- What one more job at the end changes of the conflict, and of what is kept.
use Rattle.std.proofs.Common.{◌≡◌, ℕ, suc, ◌+◌, ◌-◌, ◌<◌, ◌≤◌, true, cond, [], ◌∷◌, ◌++◌, Option, Some, None, is_some, length, take, refl, sym, ap, ◌∙◌, arith}
use Rattle.doc_model.specs.declared.job.Job.{Job}
use Rattle.doc_model.specs.declared.job.Kind.{Kind}
use Rattle.doc_model.specs.Strokes as strokes
use Rattle.doc_model.specs.Kept as strokes_kept
use Rattle.doc_model.specs.Strokes.{Jobs, conflict, conflicting}
use Rattle.doc_model.specs.Searches.{first_conflicting, second_of, pair_at, pair_of}
use Rattle.doc_model.specs.Kept.{up_to}
use Rattle.doc_model.proofs.Conflicts.{conflict_by, IsLeastFrom, least_from_is}
use Rattle.doc_model.proofs.Growing.{take_front, take_less, or_then, first_front, second_more, one_less}
use Rattle.stroke_core.specs.Fed.{Fed, StandsFor, found, pair_or, plus}

-- one more job adds at most the pair of which it is the second
pub conflict_more : (jobs : Jobs) (x : Kind × Job) → conflict (jobs ++ x ∷ []) ≡ pair_or (conflict jobs) (pair_of (first_conflicting (jobs ++ x ∷ []) (length jobs)) (length jobs))
conflict_more jobs x =
    conflict_by (jobs ++ x ∷ []) ∙ ap (pair_at (jobs ++ x ∷ [])) (second_more jobs x)
    ∙ go (second_of jobs) (least_from_is 0 (length jobs) (λ j. is_some (first_conflicting jobs j)))
    ∙ sym (ap (λ o. pair_or o (pair_of last (length jobs))) (conflict_by jobs))
  where
    last : Option ℕ
    last = first_conflicting (jobs ++ x ∷ []) (length jobs)

    go : (o : Option ℕ) → IsLeastFrom 0 (length jobs) (λ j. is_some (first_conflicting jobs j)) o → pair_at (jobs ++ x ∷ []) (or_then o (cond (is_some last) (Some (length jobs)) None)) ≡ pair_or (pair_at jobs o) (pair_of last (length jobs))
    go None told = new last refl
      where
        new : (o : Option ℕ) → last ≡ o → pair_at (jobs ++ x ∷ []) (cond (is_some o) (Some (length jobs)) None) ≡ pair_of o (length jobs)
        new None e = refl
        new (Some i) e = ap (λ o. pair_of o (length jobs)) e
    go (Some m) told = ap (λ o. pair_of o m) (first_front jobs (x ∷ []) m (omega (arith, told.1))) ∙ old (first_conflicting jobs m) told.2
      where
        old : (o : Option ℕ) → is_some o ≡ true → pair_of o m ≡ pair_or (pair_of o m) (pair_of last (length jobs))
        old None e = cc
        old (Some i) e = refl

-- the second of a pair is the number of a job
pub second_small : (jobs : Jobs) (pair : ℕ × ℕ) → conflict jobs ≡ Some pair → pair.1 - 1 ≤ length jobs
second_small jobs pair e = go (second_of jobs) (least_from_is 0 (length jobs) (λ j. is_some (first_conflicting jobs j))) (sym (conflict_by jobs) ∙ e)
  where
    of_pair : (o : Option ℕ) (m : ℕ) → m < length jobs → pair_of o m ≡ Some pair → pair.1 - 1 ≤ length jobs
    of_pair None m l e = cc
    of_pair (Some i) m l e = let same : (suc i, suc m) ≡ pair = cc in let second : suc m ≡ pair.1 = ap (λ (p : ℕ × ℕ). p.1) same in omega arith

    go : (o : Option ℕ) → IsLeastFrom 0 (length jobs) (λ j. is_some (first_conflicting jobs j)) o → pair_at jobs o ≡ Some pair → pair.1 - 1 ≤ length jobs
    go None told e = cc
    go (Some m) told e = of_pair (first_conflicting jobs m) m (omega (arith, told.1)) e

-- where nothing conflicted, all jobs before the new one are kept
up_to_last : (jobs : Jobs) (x : Kind × Job) (o : Option ℕ) (pair : ℕ × ℕ) → pair_of o (length jobs) ≡ Some pair → take (pair.1 - 1) (jobs ++ x ∷ []) ≡ jobs
up_to_last jobs x None pair e = cc
up_to_last jobs x (Some i) pair e =
    let same : (suc i, suc (length jobs)) ≡ pair = cc in
    ap (λ (p : ℕ × ℕ). take (p.1 - 1) (jobs ++ x ∷ [])) (sym same) ∙ ap (λ n. take n (jobs ++ x ∷ [])) (one_less (length jobs)) ∙ take_front jobs (x ∷ [])

more_none : (fed : Jobs) (x : Kind × Job) → conflict fed ≡ None → conflict (fed ++ x ∷ []) ≡ pair_of (first_conflicting (fed ++ x ∷ []) (length fed)) (length fed)
more_none fed x e = conflict_more fed x ∙ ap (λ o. pair_or o (pair_of (first_conflicting (fed ++ x ∷ []) (length fed)) (length fed))) e

more_some : (fed : Jobs) (x : Kind × Job) (old : ℕ × ℕ) → conflict fed ≡ Some old → conflict (fed ++ x ∷ []) ≡ Some old
more_some fed x old e = conflict_more fed x ∙ ap (λ o. pair_or o (pair_of (first_conflicting (fed ++ x ∷ []) (length fed)) (length fed))) e

-- what is kept of one more job, by the pair
pub kept_by : (fed : Jobs) (x : Kind × Job) (o : Option (ℕ × ℕ)) → conflict fed ≡ o → (p : Option (ℕ × ℕ)) → conflict (fed ++ x ∷ []) ≡ p → strokes_kept.kept (fed ++ x ∷ []) ≡ cond (is_some p) (strokes_kept.kept fed) (strokes_kept.kept fed ++ x ∷ [])
kept_by fed x None e None f = ap (up_to (fed ++ x ∷ [])) f ∙ sym (ap (λ o. up_to fed o ++ x ∷ []) e)
kept_by fed x None e (Some pair) f = ap (up_to (fed ++ x ∷ [])) f ∙ up_to_last fed x _ pair (sym (more_none fed x e) ∙ f) ∙ sym (ap (up_to fed) e)
kept_by fed x (Some old) e None f = let t : None ≡ Some old = sym f ∙ more_some fed x old e in cc
kept_by fed x (Some old) e (Some pair) f = ap (up_to (fed ++ x ∷ [])) (more_some fed x old e) ∙ take_less (old.1 - 1) fed (x ∷ []) (second_small fed old e) ∙ sym (ap (up_to fed) e)

-- the conflict with one more job is seen on the kept jobs
found_by : (fed : Jobs) (x : Kind × Job) (o : Option (ℕ × ℕ)) → conflict fed ≡ o → pair_or o (conflict (up_to fed o ++ x ∷ [])) ≡ conflict (fed ++ x ∷ [])
found_by fed x None e = refl
found_by fed x (Some old) e = sym (more_some fed x old e)

pub found_stands : (fed : Jobs) (x : Kind × Job) (s : Fed) → StandsFor fed s → found s x ≡ conflict (fed ++ x ∷ [])
found_stands fed x s h = (λ i. pair_or (h.conflict_is i) (conflict (h.kept_is i ++ x ∷ []))) ∙ found_by fed x (conflict fed) refl

pub stands_added : (fed : Jobs) (x : Kind × Job) (s : Fed) → StandsFor fed s → found s x ≡ None → StandsFor (fed ++ x ∷ []) (record s { jobs = s.jobs ++ x ∷ [] })
stands_added fed x s h e =
    let f : conflict (fed ++ x ∷ []) ≡ None = sym (found_stands fed x s h) ∙ e in
    record {
      kept_is = ap (λ js. js ++ x ∷ []) h.kept_is ∙ sym (kept_by fed x _ refl None f);
      conflict_is = none_before s.overlap _ e ∙ sym f;
    }
  where
    none_before : (o p : Option (ℕ × ℕ)) → pair_or o p ≡ None → o ≡ None
    none_before None p e = refl
    none_before (Some pair) p e = cc

pub stands_refused : (fed : Jobs) (x : Kind × Job) (s : Fed) (pair : ℕ × ℕ) → StandsFor fed s → found s x ≡ Some pair → StandsFor (fed ++ x ∷ []) (record s { overlap = Some pair })
stands_refused fed x s pair h e =
    let f : conflict (fed ++ x ∷ []) ≡ Some pair = sym (found_stands fed x s h) ∙ e in
    record {
      kept_is = h.kept_is ∙ sym (kept_by fed x _ refl (Some pair) f);
      conflict_is = sym f;
    }

-- where no two of its jobs conflict, a stroke's pair is that of the first that conflicts with the new one
found_first : (s : Fed) (x : Kind × Job) → s.overlap ≡ None → conflict s.jobs ≡ None → found s x ≡ pair_of (first_conflicting (s.jobs ++ x ∷ []) (length s.jobs)) (length s.jobs)
found_first s x e h = ap (λ o. pair_or o (conflict (s.jobs ++ x ∷ []))) e ∙ more_none s.jobs x h

pub found_none : (s : Fed) (x : Kind × Job) → s.overlap ≡ None → conflict s.jobs ≡ None → first_conflicting (s.jobs ++ x ∷ []) (length s.jobs) ≡ None → found s x ≡ None
found_none s x e h none = found_first s x e h ∙ ap (λ o. pair_of o (length s.jobs)) none

pub found_some : (s : Fed) (x : Kind × Job) (first : ℕ) → s.overlap ≡ None → conflict s.jobs ≡ None → Some first ≡ plus 1 (first_conflicting (s.jobs ++ x ∷ []) (length s.jobs)) → found s x ≡ Some (first, length s.jobs + 1)
found_some s x first e h told = found_first s x e h ∙ go (first_conflicting (s.jobs ++ x ∷ []) (length s.jobs)) told
  where
    go : (o : Option ℕ) → Some first ≡ plus 1 o → pair_of o (length s.jobs) ≡ Some (first, length s.jobs + 1)
    go None told = cc
    go (Some i) told = let same : first ≡ 1 + i = cc in let a : suc i ≡ first = omega arith in let b : (n : ℕ) → suc n ≡ n + 1 = λ n. omega arith in (λ i. Some (a i, b (length s.jobs) i))

pub found_kept : (s : Fed) (x : Kind × Job) (pair : ℕ × ℕ) → s.overlap ≡ Some pair → found s x ≡ Some pair
found_kept s x pair e = ap (λ o. pair_or o (conflict (s.jobs ++ x ∷ []))) e

pub plus_none : (n : ℕ) (o : Option ℕ) → None ≡ plus n o → o ≡ None
plus_none n None e = refl
plus_none n (Some i) e = cc

pub conflict_nil : conflict [] ≡ None
unfolding conflict
conflict_nil = refl

pub stands_still : (fed : Jobs) (x : Kind × Job) (s : Fed) (pair : ℕ × ℕ) → StandsFor fed s → s.overlap ≡ Some pair → StandsFor (fed ++ x ∷ []) s
stands_still fed x s pair h e =
    let f : conflict (fed ++ x ∷ []) ≡ Some pair = sym (found_stands fed x s h) ∙ found_kept s x pair e in
    record {
      kept_is = h.kept_is ∙ sym (kept_by fed x _ refl (Some pair) f);
      conflict_is = e ∙ sym f;
    }
