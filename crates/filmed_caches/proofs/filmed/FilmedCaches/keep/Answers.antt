use Rattle.std.proofs.Common.{sym, subst}
use Rattle.filmed_caches.specs.Filmed.{IsMarked}
use Rattle.filmed_caches.proofs.FilmedRoot.{marked_kept}
use Rattle.filmed_caches.proofs.filmed.FilmedCaches.keep.Goals as goal

pub invariant_of-self : goal.invariant_of-self
invariant_of-self c = subst (λ caches. IsMarked caches c.self.inside.film c.self.inside.laid) (sym (c.keep.ensures c.requires.of_tree.0 c.requires.of_tree.1))
    (marked_kept c.self.inside.caches c.requires.of_tree.0 c.self.inside.film c.self.inside.laid c.self.invariant)
