use Rattle.std.proofs.Common.{drop}
use Rattle.filmed_caches.proofs.PliesAdded.{ComesTo}
use Rattle.filmed_caches.proofs.plies.plies_of.Given as goal

-- with the stages that are left the plies so far come to the picture
abbrev pub invariant-loop-stage : goal.invariant-loop-stage
invariant-loop-stage l = ComesTo l.store.present l.fn.key (drop l.stage-index l.stages) l.plies.items
