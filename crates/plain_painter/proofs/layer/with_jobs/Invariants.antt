use Rattle.std.proofs.Common.{◌≡◌, true, take}
use Rattle.std.specs.List.{list_all}
use Rattle.plain_painter.specs.Steps.{is_sound}
use Rattle.plain_painter.proofs.Layered.{Laid}
use Rattle.plain_painter.proofs.layer.with_jobs.Given as goal

-- the jobs so far are steps
abbrev pub invariant-loop-entry : goal.invariant-loop-entry
invariant-loop-entry l = (list_all is_sound l.all.items ≡ true) × Laid l.layer l.steps (take l.entry-index l.jobs) l.all.items
