use Rattle.std.proofs.Common.{◌≡◌, false, refl, sym, ap, subst, arith, ◌+◌, ◌∙◌}
use Rattle.tile_core.proofs.SameParts.{not_true}
use Rattle.walker_core.specs.declared.gathered.Source.{Source}
use Rattle.walker_core.proofs.SameReadings.{Sides, same_default, own_source, other_source, sides_skip, sides_step, sides_more, some_source}
use Rattle.walker_core.proofs.same.same_children.Goals as goal
use Rattle.walker_core.proofs.same.same_children.Goals.{then-xs-i+in-Some, else-xs-i}

pub loop-i-preserved : goal.loop-i-preserved
loop-i-preserved c = elim c.if-xs-i.branch [
  | then-xs-i+in-Some w ↦
      let s : Source = w.index-xs-i-then-xs-i.result in
      let own : s.group ≡ c.args.group = ap (λ (t : Source). t.group) (w.index-xs-i-then-xs-i.is ∙ same_default c.args.xs.now c.loop-i.i s c.index-xs-i.result c.loop-i-test.true) ∙ w.if-xs-i.true in
      subst (λ n. Sides c.args.rect.now c.args.key c.args.group c.args.xs.now c.args.ys.now (c.loop-i.i + 1) n) (sym w.from-is)
      (sides_step c.args.rect.now c.args.key c.args.group c.args.xs.now c.args.ys.now s c.loop-i.i (c.loop-i.i + 1) c.loop-i.from w.in-Some.to
      (own_source c.args.rect.now c.args.group c.loop-i.i c.args.xs.now s c.loop-i-test.true w.index-xs-i-then-xs-i.is own) own w.in-Some.ensures.inside w.in-Some.ensures.same c.loop-i.invariant)
  | else-xs-i w ↦
      subst (λ n. Sides c.args.rect.now c.args.key c.args.group c.args.xs.now c.args.ys.now (c.loop-i.i + 1) n) (sym w.from-is)
      (sides_skip c.args.rect.now c.args.key c.args.group c.args.xs.now c.args.ys.now c.loop-i.i (c.loop-i.i + 1) c.loop-i.from
      (other_source c.args.rect.now c.args.group c.loop-i.i c.args.xs.now c.index-xs-i.result c.loop-i-test.true c.index-xs-i.is (λ e. w.if-xs-i.false (ap (λ (t : Source). t.group) (sym c.index-xs-i.is) ∙ e))) c.loop-i.invariant)
]

pub returns-in-Some-next_child : goal.returns-in-Some-next_child
returns-in-Some-next_child c =
    let d : Source = some_source c.args.ys.now c.in-Some-next_child._at c.in-Some-next_child.ensures.inside in (
      (λ t. not_true false refl t),
      (λ all. absurd (sides_more c.args.rect.now c.args.key c.args.group c.args.xs.now c.args.ys.now c.loop-i.i c.loop-i.from _ _ c.requires.met (omega arith) (c.in-Some-next_child.ensures.next c.args.rect.now d) c.loop-i.invariant all)),
    )
