use Rattle.std.proofs.Common.{refl, sym, subst}
use Rattle.compose_core.specs.Spots.{given_on}
use Rattle.filmed_caches.specs.Filmed.{IsMarked}
use Rattle.filmed_caches.proofs.FilmedRoot.{marked_put}
use Rattle.filmed_caches.proofs.filmed.FilmedCaches.put.Goals as goal

pub invariant_of-self : goal.invariant_of-self
invariant_of-self c = subst (λ caches. IsMarked caches c.self.inside.film c.self.inside.laid) (sym c.in_err-put.ensures.err) c.self.invariant

pub invariant_of-self-2 : goal.invariant_of-self-2
invariant_of-self-2 c = subst (λ caches. IsMarked caches c.self.inside.film c.mark_laid.new.laid) (sym (c.in_ok-put.ensures.ok (given_on c.args.given.now) (λ p h k. refl)))
    (marked_put c.self.inside.caches c.args.group c.args.rect.now c.args.key (given_on c.args.given.now) c.self.inside.film c.self.inside.laid c.mark_laid.new.laid c.mark_laid.ensures c.self.invariant)
