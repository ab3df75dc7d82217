-- What is counted where an entry leaves the queue.
use Rattle.std.proofs.Common.{◌≡◌, ℕ, suc, zero, ◌+◌, ◌≤◌, List, [], ◌∷◌, ◌++◌, Option, Some, None, length, take, refl, ap, ◌∙◌, arith}
use Rattle.doc_model.specs.declared.command.Outcome.{Outcome}
use Rattle.doc_model.specs.Strokes.{Jobs, Entry, Strokes, Changes, Undoes, Redoes, Purges, Exports, entries, conflict}
use Rattle.doc_model.specs.Kept.{up_to}
use Rattle.doc_model.specs.Strokes as strokes
use Rattle.doc_model.specs.Kept as strokes_kept
use Rattle.machine_model.specs.State.{State, head}
use Rattle.machine_model.specs.Counted.{jobs_in}
use Rattle.machine_model.proofs.Stories.{take_one_more}
use Rattle.geom_core.proofs.Tests.{length_more}

-- the number of jobs of one entry
abbrev pub jobs_of : Entry → ℕ
jobs_of (Strokes stroke) = length stroke.jobs
jobs_of e = 0

-- the jobs of one entry and of those behind
pub jobs_in_one : (e : Entry) (es : List Entry) → jobs_in (e ∷ es) ≡ jobs_of e + jobs_in es
jobs_in_one (Strokes s) es = refl
jobs_in_one (Changes c) es = omega arith
jobs_in_one Undoes es = omega arith
jobs_in_one Redoes es = omega arith
jobs_in_one (Purges n) es = omega arith
jobs_in_one Exports es = omega arith

-- the jobs of the entries and of one more behind
pub jobs_in_last : (es : List Entry) (e : Entry) → jobs_in (es ++ e ∷ []) ≡ jobs_in es + jobs_of e
jobs_in_last [] e = let h : jobs_in (e ∷ []) ≡ jobs_of e + 0 = jobs_in_one e [] in omega arith
jobs_in_last (x ∷ es) e =
    let a : jobs_in (x ∷ (es ++ e ∷ [])) ≡ jobs_of x + jobs_in (es ++ e ∷ []) = jobs_in_one x (es ++ e ∷ []) in
    let b : jobs_in (x ∷ es) ≡ jobs_of x + jobs_in es = jobs_in_one x es in
    let h : jobs_in (es ++ e ∷ []) ≡ jobs_in es + jobs_of e = jobs_in_last es e in
    omega arith

-- the jobs of the entries that have left, with one entry more
pub jobs_left : (s : State) (e : Entry) (o : Outcome) → head s ≡ Some e → jobs_in (take (length (s.outcomes ++ o ∷ [])) (entries s.fed)) ≡ jobs_in (take (length s.outcomes) (entries s.fed)) + jobs_of e
jobs_left s e o h = ap (λ n. jobs_in (take n (entries s.fed))) (length_more s.outcomes o) ∙ ap jobs_in (take_one_more (length s.outcomes) (entries s.fed) e h) ∙ jobs_in_last (take (length s.outcomes) (entries s.fed)) e

length_take_le : {A : Type 0} (m : ℕ) (xs : List A) → length (take m xs) ≤ length xs
length_take_le zero xs = omega arith
length_take_le (suc m) [] = omega arith
length_take_le (suc m) (x ∷ xs) = let h : length (take m xs) ≤ length xs = length_take_le m xs in omega arith

-- no more jobs are kept than there are
pub kept_few : (jobs : Jobs) → length (strokes_kept.kept jobs) ≤ length jobs
kept_few jobs = go (conflict jobs)
  where
    go : (o : Option (ℕ × ℕ)) → length (up_to jobs o) ≤ length jobs
    go None = omega arith
    go (Some pair) = length_take_le _ jobs

-- the same for any state afterwards
pub jobs_left_any : (s t : State) (e : Entry) → head s ≡ Some e → t.fed ≡ s.fed → length t.outcomes ≡ suc (length s.outcomes) → jobs_in (take (length t.outcomes) (entries t.fed)) ≡ jobs_in (take (length s.outcomes) (entries s.fed)) + jobs_of e
jobs_left_any s t e h fed count = (λ i. jobs_in (take (count i) (entries (fed i)))) ∙ ap jobs_in (take_one_more (length s.outcomes) (entries s.fed) e h) ∙ jobs_in_last (take (length s.outcomes) (entries s.fed)) e
