use Rattle.std.proofs.Common.{◌≡◌, ◌<◌, ℕ, suc, Some, false}
use Rattle.std.specs.Prelude.{slice_get}
use Rattle.doc_model.specs.declared.job.Job.{Job}
use Rattle.doc_model.specs.declared.job.Kind.{Kind}
use Rattle.machine_model.specs.Guards.{is_bar}
use Rattle.desk_events.proofs.small_jobs.count_before_bar.Given as goal

-- so far none is a barrier
abbrev pub invariant-loop-i : goal.invariant-loop-i
invariant-loop-i l = (k : ℕ) (j : Kind × Job) → suc k < l.i → slice_get l.jobs (suc k) ≡ Some j → is_bar j.0 ≡ false
