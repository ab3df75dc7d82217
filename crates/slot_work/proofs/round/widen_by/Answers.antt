use Rattle.std.proofs.Common.{◌≤◌, sym, ◌∙◌, subst}
use Rattle.slot_work.proofs.Rounding.{widens_apart, widens_more}
use Rattle.slot_work.proofs.round.widen_by.Goals as goal

pub returns-in-Some : goal.returns-in-Some
returns-in-Some c = widens_more c.args.bounds.now c.args.rect.now c.in-Some.part c.args.so_far c.round-round.result
    (sym c.clip.ensures.value ∙ c.in-Some.is) c.in-Some.ensures.shared (subst (λ n. 1 ≤ n) c.w.ensures.value c.w.ensures.some) (subst (λ n. 1 ≤ n) c.h.ensures.value c.h.ensures.some)
    c.round-round.ensures (subst (λ n. 1 ≤ n) c.w-in-Some.ensures.value c.w-in-Some.ensures.some) (subst (λ n. 1 ≤ n) c.h-in-Some.ensures.value c.h-in-Some.ensures.some)

pub returns-in-None : goal.returns-in-None
returns-in-None c = widens_apart c.args.bounds.now c.args.rect.now c.args.so_far c.in-None.ensures.apart
