use Rattle.std.proofs.Common.{false, refl}
use Rattle.tile_core.proofs.SameParts.{not_true, is_true}
use Rattle.walker_core.proofs.SameReadings.{child_alike, child_told}
use Rattle.walker_core.proofs.same.same_child.Goals as goal

pub returns-then-x-y : goal.returns-then-x-y
returns-then-x-y c = (
  (λ t. not_true false refl t),
  (λ all. absurd (c.if-x-y.true (child_told c.args.rect.now c.args.key c.args.x.now c.args.y.now c.requires.met all).id)),
)

pub returns-then-not-same_look : goal.returns-then-not-same_look
returns-then-not-same_look c = (
  (λ t. not_true false refl t),
  (λ all. not_true c.same_look.result c.if-not-same_look.true (c.same_look.ensures.1 (child_told c.args.rect.now c.args.key c.args.x.now c.args.y.now c.requires.met all).look)),
)

pub returns : goal.returns
returns c = (
  (λ t. child_alike c.args.rect.now c.args.key c.args.x.now c.args.y.now c.if-x-y.false (c.same_look.ensures.0 (is_true c.same_look.result c.if-not-same_look.false)) (c.same_in.ensures.0 t)),
  (λ all. c.same_in.ensures.1 (child_told c.args.rect.now c.args.key c.args.x.now c.args.y.now c.requires.met all).pixels),
)
