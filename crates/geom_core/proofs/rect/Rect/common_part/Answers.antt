use Rattle.std.proofs.Common.{◌≡◌, sym, ◌∙◌, subst}
use Rattle.geom_core.specs.Areas.{Area}
use Rattle.geom_core.specs.Rects.{IsShared}
use Rattle.geom_core.proofs.Common.{Sized, shared_common}
use Rattle.geom_core.proofs.Shifted.{common_seen, meets_same}
use Rattle.geom_core.proofs.rect.Rect.common_part.Goals as goal

pub returns-clause-value : goal.returns-clause-value
returns-clause-value c = rw (← c.self.view_is, ← c.other.view_is)
    (common_seen c.self.inside c.other.inside _ _ _ _ (meets_same c.self.view_is c.other.view_is ∙ c.requires) c.max-left.ensures c.max-top.ensures c.min.ensures c.min-2.ensures)

sized : (a b : Area) → a ≡ b → Sized a → Sized b
sized a b e s = subst (λ v. Sized v) e s

pub returns-clause-shared : goal.returns-clause-shared
returns-clause-shared c =
    subst (λ v. IsShared c.args.self.now c.args.other.now v) (sym (returns-clause-value c))
    (shared_common c.args.self.now c.args.other.now c.requires
    (sized _ c.args.self.now c.self.view_is (record { w = c.self.invariant.0; h = c.self.invariant.1 }))
    (sized _ c.args.other.now c.other.view_is (record { w = c.other.invariant.0; h = c.other.invariant.1 })))
