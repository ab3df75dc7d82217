use Rattle.std.proofs.Common.{◌≡◌, drop}
use Rattle.std.specs.List.{list_any}
use Rattle.geom_core.specs.Areas.{point, holds}
use Rattle.doc_model.specs.declared.canvas.Patch.{Patch}
use Rattle.slot_work.proofs.points.some_waits.Given as goal

-- none of the patches so far holds the point
abbrev pub invariant-loop-i : goal.invariant-loop-i
invariant-loop-i l = list_any (λ (p : Patch). holds p.rect (point l.x l.y)) (drop l.i l.updates.patches) ≡ list_any (λ (p : Patch). holds p.rect (point l.x l.y)) l.updates.patches
