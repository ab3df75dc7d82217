use Rattle.std.specs.List.{AllWithin}
use Rattle.job_core.specs.Paints.{layer_of}
use Rattle.slot_work.specs.Lacking.{IsOfJob}
use Rattle.slot_work.proofs.wholes.are_of_job.Given as goal

-- the tiles so far were made of the job
abbrev pub invariant-loop-whole : goal.invariant-loop-whole
invariant-loop-whole l = AllWithin (IsOfJob l.painter.job (layer_of l.painter.shot)) l.tiles 0 l.whole-index
