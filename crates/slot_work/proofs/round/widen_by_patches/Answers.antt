use Rattle.std.proofs.Common.{arith}
use Rattle.geom_core.specs.Areas.{holds}
use Rattle.doc_model.specs.declared.canvas.Patch.{Patch}
use Rattle.slot_work.proofs.Rounding.{widens_nothing, widens_next, widens_all}
use Rattle.slot_work.proofs.round.widen_by_patches.Goals as goal

pub loop-i-init : goal.loop-i-init
loop-i-init c = widens_nothing c.args.bounds.now c.args.so_far

pub loop-i-preserved : goal.loop-i-preserved
loop-i-preserved c = widens_next c.args.bounds.now (λ p (q : Patch). holds q.rect p) c.args.updates.now.patches c.args.so_far c.loop-i.round c.widen_by-round.result c.loop-i.i c.patch.result c.patch.ensures c.loop-i.invariant c.widen_by-round.ensures

pub returns : goal.returns
returns c = widens_all c.args.bounds.now (λ p (q : Patch). holds q.rect p) c.args.updates.now.patches c.args.so_far c.args.so_far c.loop-i.round c.loop-i.i (omega (arith, c.len-i-end.ensures.value)) c.loop-i.invariant
