-- The jobs of a stroke that are kept.
use Rattle.std.specs.Prelude.{ℕ, ◌-◌, Option, Some, None, take}
use Rattle.doc_model.specs.Strokes.{Jobs, conflict}

-- the jobs before the second one of a pair, or all
abbrev pub up_to : Jobs → Option (ℕ × ℕ) → Jobs
up_to jobs None = jobs
up_to jobs (Some pair) = take (pair.1 - 1) jobs

-- the jobs before the second of the pair
abbrev pub kept : Jobs → Jobs
kept jobs = up_to jobs (conflict jobs)
