use Rattle.std.proofs.Common.{take}
use Rattle.std.specs.List.{list_any}
use Rattle.geom_core.specs.Areas.{holds}
use Rattle.doc_model.specs.declared.canvas.Patch.{Patch}
use Rattle.slot_work.specs.Round.{Widens}
use Rattle.slot_work.proofs.round.widen_by_patches.Given as goal

-- the patches so far were taken in
abbrev pub invariant-loop-i : goal.invariant-loop-i
invariant-loop-i l = Widens l.bounds (λ p. list_any (λ (q : Patch). holds q.rect p) (take l.i l.updates.patches)) l.fn.so_far l.round
