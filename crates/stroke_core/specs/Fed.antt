-- Strokes as callers see them.
use Rattle.std.specs.Prelude.{◌≡◌, ℕ, ◌+◌, ◌-◌, ◌<◌, ◌≤◌, Bool, true, false, Option, Some, None, List, [], ◌∷◌, ◌++◌, length, map, drop, All}
use Rattle.doc_model.specs.Jobs.{checks}
use Rattle.doc_model.specs.declared.job.Job.{Job}
use Rattle.doc_model.specs.declared.job.Kind.{Kind}
use Rattle.doc_model.specs.Strokes.{Jobs, conflict, runs_at}
use Rattle.doc_model.specs.Kept.{kept}
use Rattle.stroke_core.specs.Marks.{Marks, marks_of}

-- a stroke with the jobs that it keeps, and the pair of jobs that conflict, as numbers from 1
pub record Fed : Type 0 where
  pub no : ℕ
  pub layer : ℕ
  pub exclusive : Bool
  pub jobs : Jobs
  pub overlap : Option (ℕ × ℕ)

-- a stroke that takes no job any more
pub record Closed : Type 0 where
  pub stroke : Fed
  pub cancelled : Bool

-- the first pair that is there
abbrev pub pair_or : Option (ℕ × ℕ) → Option (ℕ × ℕ) → Option (ℕ × ℕ)
pair_or None new = new
pair_or (Some pair) new = Some pair

-- the pair that the stroke has, or else the one that it gets by one more job
abbrev pub found : Fed → Kind × Job → Option (ℕ × ℕ)
found s job = pair_or s.overlap (conflict (s.jobs ++ job ∷ []))

-- the number that is n more
abbrev pub plus : ℕ → Option ℕ → Option ℕ
plus n None = None
plus n (Some i) = Some (n + i)

-- the stroke has what is to be kept of all the jobs that it was fed, and their conflict
pub record StandsFor (jobs : Jobs) (s : Fed) : Type 0 where
  pub kept_is : s.jobs ≡ kept jobs
  pub conflict_is : s.overlap ≡ conflict jobs

-- what holds of the kept jobs, with the place where the last run began and the marks of the jobs from there on
pub record IsKept (jobs : Jobs) (marks : List Marks) (start : ℕ) : Type 0 where
  pub few : length jobs ≤ 4096
  pub checked : All (λ (j : Kind × Job). checks j.1 ≡ true) jobs
  pub clear : conflict jobs ≡ None
  pub marked : marks ≡ map marks_of (drop start jobs)
  pub inside : start ≤ length jobs
  pub run : (k : ℕ) → start ≤ k → k < length jobs → runs_at jobs k ≡ true
  pub broken : 0 < start → runs_at jobs (start - 1) ≡ false
