use Rattle.std.proofs.Common.{sym, subst}
use Rattle.filmed_caches.specs.Filmed.{IsMarked}
use Rattle.filmed_caches.proofs.FilmedRoot.{none_taken}
use Rattle.filmed_caches.proofs.filmed.FilmedCaches.new.Goals as goal

pub invariant_of-result : goal.invariant_of-result
invariant_of-result c = subst (λ frames. IsMarked c.in_ok-caches.caches frames c.none.result) (sym c.new-2.ensures) (none_taken c.in_ok-caches.caches c.none.result)
