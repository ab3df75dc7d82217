use Rattle.std.proofs.Common.{ap, sym, ◌∙◌, arith}
use Rattle.std.specs.List.{list_any}
use Rattle.geom_core.specs.Areas.{Point, point, holds}
use Rattle.doc_model.specs.declared.canvas.Patch.{Patch}
use Rattle.filmed_caches.proofs.Passes.{any_at, any_passed, any_ended}
use Rattle.slot_work.proofs.SlotPoints.{point_read}
use Rattle.slot_work.proofs.points.some_waits.Goals as goal

pub returns-then-holds : goal.returns-then-holds
returns-then-holds c =
    let is = point_read c.args.x c.args.y c.ranges.x c.ranges.y in
    sym (any_at (λ (p : Patch). holds p.rect (point c.args.x c.args.y)) c.args.updates.now.patches c.loop-i.i c.patch.result c.patch.ensures (ap (holds c.patch.result.rect) (sym is) ∙ sym c.holds.ensures ∙ c.if-holds.true))

pub loop-i-preserved : goal.loop-i-preserved
loop-i-preserved c = any_passed _ c.args.updates.now.patches c.loop-i.i c.patch.result c.patch.ensures (sym c.holds.ensures ∙ c.if-holds.false) c.loop-i.invariant

pub returns : goal.returns
returns c =
    let is = point_read c.args.x c.args.y c.ranges.x c.ranges.y in
    sym (ap (λ (q : Point). list_any (λ (p : Patch). holds p.rect q) c.args.updates.now.patches) (sym is) ∙ any_ended _ c.args.updates.now.patches c.loop-i.i (omega (arith, c.len-i-end.ensures.value)) c.loop-i.invariant)
