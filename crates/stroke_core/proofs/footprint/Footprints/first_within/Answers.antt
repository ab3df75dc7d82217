use Rattle.std.proofs.Common.{◌≡◌, List, true, false, cond, sym, ap, ◌∙◌, subst, arith}
use Rattle.std.proofs.lemmas.Grind.{common_steps}
use Rattle.stroke_core.specs.Bounds.{AreEdges, near, bound_at}
use Rattle.stroke_core.specs.Fed.{plus}
use Rattle.stroke_core.specs.Marks.{Marks}
use Rattle.stroke_core.proofs.Apart.{block_apart}
use Rattle.stroke_core.proofs.footprint.Footprints.first_within.Goals as goal
use Rattle.stroke_core.proofs.footprint.Footprints.first_within.Goals.{then-new, else-new}

pub returns-then-not-any_near : goal.returns-then-not-any_near
returns-then-not-any_near c =
    let same : c.new.inside.unique ≡ c.args.new.now.unique = ap (λ (m : Marks). m.unique) c.new.view_is in
    let lefts : c.deref.result.now ≡ cond c.args.new.now.unique c.self.inside.lefts_for_unique.items c.self.inside.lefts.items = elim c.if-new.branch [
      | then-new w ↦ (let u : c.args.new.now.unique ≡ true = sym same ∙ w.if-new.true in rw u (grind (arith, common_steps)))
      | else-new w ↦ (let u : c.args.new.now.unique ≡ false = sym same ∙ w.if-new.false in rw u (grind (arith, common_steps)))
    ] in
    let edges : AreEdges c.args.self.now c.self.inside.lefts.items c.self.inside.lefts_for_unique.items c.self.inside.rights.items c.self.inside.tops.items c.self.inside.bottoms.items = subst (λ (ms : List Marks). AreEdges ms c.self.inside.lefts.items c.self.inside.lefts_for_unique.items c.self.inside.rights.items c.self.inside.tops.items c.self.inside.bottoms.items) c.self.view_is c.self.invariant.edges in
    sym (ap (plus c.args.from) (block_apart c.args.self.now _ _ _ _ _ c.args.new.now c.args.bound c.args.from c.args.to edges c.requires.bound
    (λ k a b. sym (λ i. near (bound_at (lefts i) (c.deref-2.ensures.value i) (c.deref-3.ensures.value i) (c.deref-4.ensures.value i) k) c.args.bound) ∙ c.any_near.ensures c.if-not-any_near.true k a b)))
