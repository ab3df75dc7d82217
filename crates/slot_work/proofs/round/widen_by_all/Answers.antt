use Rattle.std.proofs.Common.{length, refl, arith}
use Rattle.std.proofs.lemmas.Option.{slice_get_read}
use Rattle.geom_core.specs.Areas.{Area, holds}
use Rattle.slot_work.proofs.Rounding.{widens_nothing, widens_next, widens_all}
use Rattle.slot_work.proofs.round.widen_by_all.Goals as goal

pub loop-i-init : goal.loop-i-init
loop-i-init c = widens_nothing c.args.bounds.now c.args.so_far

pub loop-i-preserved : goal.loop-i-preserved
loop-i-preserved c = widens_next c.args.bounds.now (λ p (q : Area). holds q p) c.args.rects.now c.args.so_far c.loop-i.round c.widen_by-round.result c.loop-i.i c.index-rects-i.result
    (slice_get_read c.args.rects.now (length c.args.rects.now) c.loop-i.i c.index-rects-i.result refl (omega arith) c.index-rects-i.is) c.loop-i.invariant c.widen_by-round.ensures

pub returns : goal.returns
returns c = widens_all c.args.bounds.now (λ p (q : Area). holds q p) c.args.rects.now c.args.so_far c.args.so_far c.loop-i.round c.loop-i.i (omega arith) c.loop-i.invariant
