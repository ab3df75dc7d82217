use Rattle.std.proofs.Common.{◌≡◌, drop}
use Rattle.machine_model.specs.Effects.{updates_with_all, writes_of}
use Rattle.update_queue.specs.Waiting.{waiting}
use Rattle.desk_events.proofs.small_jobs.widen_jobs.Given as goal

-- what the jobs that are left write still waits
abbrev pub invariant-loop-entry : goal.invariant-loop-entry
invariant-loop-entry l = waiting l.updates.canvas (updates_with_all l.updates.canvas l.group (writes_of (drop l.entry-index l.jobs)) l.updates.patches) ≡ waiting l.initial.updates.canvas (updates_with_all l.initial.updates.canvas l.group (writes_of l.jobs) l.initial.updates.patches)
