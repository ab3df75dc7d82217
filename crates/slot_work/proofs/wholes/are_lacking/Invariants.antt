use Rattle.std.specs.FinSet as set
use Rattle.job_core.specs.Paints.{layer_of}
use Rattle.slot_work.proofs.Lackings.{LackingSoFar}
use Rattle.slot_work.proofs.wholes.are_lacking.Given as goal

-- the tiles so far are lacking, and each once
abbrev pub invariant-loop-whole : goal.invariant-loop-whole
invariant-loop-whole l = LackingSoFar l.painter.job (layer_of l.painter.shot) l.painter.published l.tiles l.whole-index (set.from_list l.keys.keys)
