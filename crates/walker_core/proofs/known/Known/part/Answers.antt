use Rattle.std.proofs.Common.{◌∙◌, ap, sym, get_or, arith}
use Rattle.walker_core.proofs.Kept.{stale_found, stale_passed}
use Rattle.walker_core.proofs.known.Known.part.Goals as goal

pub returns-then-eq : goal.returns-then-eq
returns-then-eq c = sym (c.loop-damaged.invariant ∙ stale_found c.args.self.now.damaged.items c.loop-damaged.damaged-index c.args.key c.damaged-item.result c.eq.result (omega (arith, c.deref-damaged-items.ensures.len)) (c.damaged-item.is ∙ ap (λ ds. get_or ds c.loop-damaged.damaged-index c.damaged-item.result) c.deref-damaged-items.ensures.value) c.eq.ensures c.if-eq.true)

pub loop-damaged-preserved : goal.loop-damaged-preserved
loop-damaged-preserved c = c.loop-damaged.invariant ∙ stale_passed c.args.self.now.damaged.items c.loop-damaged.damaged-index c.args.key c.damaged-item.result c.eq.result (omega (arith, c.deref-damaged-items.ensures.len)) (c.damaged-item.is ∙ ap (λ ds. get_or ds c.loop-damaged.damaged-index c.damaged-item.result) c.deref-damaged-items.ensures.value) c.eq.ensures c.if-eq.false
