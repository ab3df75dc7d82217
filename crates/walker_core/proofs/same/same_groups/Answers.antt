use Rattle.std.proofs.Common.{false, refl, arith}
use Rattle.tile_core.proofs.SameParts.{not_true, is_true}
use Rattle.walker_core.proofs.SameReadings.{path_step, path_stop, path_done}
use Rattle.walker_core.proofs.same.same_groups.Goals as goal

pub loop-i-preserved : goal.loop-i-preserved
loop-i-preserved c = path_step c.args.rect.now c.args.key c.args.path.now c.args.xs.now c.args.ys.now c.loop-i.i (omega (arith, c.loop-i-test.true)) (c.same_children.ensures.0 (is_true c.same_children.result c.if-not-same_children.false)) c.loop-i.invariant

pub returns-then-not-same_children : goal.returns-then-not-same_children
returns-then-not-same_children c = (
  (λ t. not_true false refl t),
  (λ all. not_true c.same_children.result c.if-not-same_children.true (c.same_children.ensures.1 (path_stop c.args.rect.now c.args.key c.args.path.now c.args.xs.now c.args.ys.now c.loop-i.i (omega (arith, c.loop-i-test.true)) c.loop-i.invariant all))),
)

pub returns : goal.returns
returns c = (
  (λ t. path_done c.args.rect.now c.args.key c.args.path.now c.args.xs.now c.args.ys.now c.loop-i.i (omega arith) c.loop-i.invariant),
  (λ all. refl),
)
