-- The first pair of jobs in conflict, as it is searched job by job.
use Rattle.std.specs.Prelude.{ℕ, suc, Bool, Option, Some, None, is_some, length}
use Rattle.std.specs.List.{find, range_with_len}
use Rattle.doc_model.specs.Strokes.{Jobs, conflicting}

-- the least of the n numbers from k on that passes
abbrev pub least_from : ℕ → ℕ → (ℕ → Bool) → Option ℕ
least_from k n test = find test (range_with_len k n)

-- the least number below n that passes
abbrev pub least : ℕ → (ℕ → Bool) → Option ℕ
least n test = least_from 0 n test

-- the least place of a job before that at j which conflicts with it
abbrev pub first_conflicting : Jobs → ℕ → Option ℕ
first_conflicting jobs j = least j (λ i. conflicting jobs i j)

-- the least place of a job that conflicts with one before it
abbrev pub second_of : Jobs → Option ℕ
second_of jobs = least (length jobs) (λ j. is_some (first_conflicting jobs j))

-- the pair as numbers from 1
abbrev pub pair_of : Option ℕ → ℕ → Option (ℕ × ℕ)
pair_of None j = None
pair_of (Some i) j = Some (suc i, suc j)

-- the pair with that second place
abbrev pub pair_at : Jobs → Option ℕ → Option (ℕ × ℕ)
pair_at jobs None = None
pair_at jobs (Some j) = pair_of (first_conflicting jobs j) j
