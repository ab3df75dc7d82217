use Rattle.std.proofs.lemmas.List.Elements.{All-more, All-weaker}
use Rattle.std.proofs.lemmas.List.{take_all}
use Rattle.stroke_core.specs.Bounds.{LiesIn}
use Rattle.stroke_core.proofs.bound.Bound.with_all.Goals as goal

pub loop-rect-preserved : goal.loop-rect-preserved
loop-rect-preserved c = record {
  more = All-more (LiesIn c.joined-bound.result) c.args.rects.now c.loop-rect.rect-index c.rect-item.result c.loop-rect-test.true (All-weaker (LiesIn c.loop-rect.bound) (LiesIn c.joined-bound.result) (λ a h. c.joined-bound.ensures.kept a h) _ c.loop-rect.invariant.more) (rw (← c.rect-item.is) (c.joined-bound.ensures.more _ c.of.ensures));
  kept = λ a h. c.joined-bound.ensures.kept a (c.loop-rect.invariant.kept a h);
}

pub returns-clause-more : goal.returns-clause-more
returns-clause-more c = rw (take_all c.loop-rect.rect-index c.args.rects.now c.loop-rect-test.false) at c.loop-rect.invariant.more
